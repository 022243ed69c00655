-- The decision value by halves. Assumes nothing.
use Rattle.std.proofs.Common.{◌≡◌, ℕ, suc, ◌+◌, ◌-◌, ◌^◌, ◌<◌, Bool, ℤ, sym, subst, ⊎_elim, arith}
use Rattle.std.proofs.lemmas.Bool.{lt-ltb, le-ltb, cases_lt}
use Rattle.cost.specs.Path.{decision, first, second, from}

-- a number stands in the first half, of m places, or k places into the second
pub by-half : (P : ℕ → Type 0) (m i : ℕ) → (i < m → P i) → ((k : ℕ) → i ≡ m + k → P (m + k)) → P i
by-half P m i low high =
    ⊎_elim low (λ le. let e : m + (i - m) ≡ i = omega arith in subst P e (high (i - m) (sym e))) (cases_lt i m)

pub doubled : (n : ℕ) → 2 ^ suc n ≡ 2 ^ n + 2 ^ n
doubled n = omega arith

pub decision-first : (n : ℕ) (llr : ℕ → ℤ) (u : ℕ → Bool) (i : ℕ) → i < 2 ^ n →
    decision (suc n) llr u i ≡ decision n (first n llr) u i
unfolding decision
decision-first n llr u i lt = rw (lt-ltb i (2 ^ n) lt)

pub decision-second : (n : ℕ) (llr : ℕ → ℤ) (u : ℕ → Bool) (i : ℕ) →
    decision (suc n) llr u (2 ^ n + i) ≡ decision n (second n llr u) (from (2 ^ n) u) i
unfolding decision
decision-second n llr u i =
    let e : 2 ^ n + i - 2 ^ n ≡ i = omega arith in
    rw (le-ltb (2 ^ n + i) (2 ^ n) (omega arith), e)
