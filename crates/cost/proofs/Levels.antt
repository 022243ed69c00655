-- The value at the end of the levels is the decision value, and each level is at most twice the one above. Assumes nothing.
use Rattle.std.proofs.Common.{◌≡◌, ℕ, zero, suc, ◌+◌, ◌*◌, ◌/◌, ◌%◌, ◌^◌, ◌<◌, ◌≤◌, Bool, true, false, eqb, List, ℤ, nat_abs, sym, ap, ◌∙◌, subst, ap₂, ⊎_elim, add_assoc, mod-eq_of_lt, mul_assoc, mul_comm, add-mul, pow-suc, zero-add, zero-mul, arith}
use mathlib.Core.Path.{fun_ext}
use native.Mathlib.Nat.{div-eq_of_lt}
use Rattle.std.proofs.lemmas.Nat.{mod-pow-add, shr-shr, mod_below, pow_pos}
use Rattle.std.proofs.lemmas.Bool.{cond_both, cond-true, cond-false, eqb-true, eqb-false, cases_Bool}
use Rattle.base.specs.Transform.{code_bit}
use Rattle.cost.specs.Path.{decision, first, second, from}
use Rattle.cost.specs.Levels.{start, halved, level, Levels}
use Rattle.cost.proofs.Values.{f-le, g-le}
use Rattle.cost.proofs.Halves.{decision-first, decision-second}
use Rattle.cost.proofs.Path.{decision-same}

-- the block twice as long ends its index with the bit that says in which half i stands
remainder : (m i : ℕ) → i % 2 ^ suc m ≡ i / 2 ^ m % 2 * 2 ^ m + i % 2 ^ m
remainder m i = ap (λ e. i % 2 ^ e) (omega arith) ∙ mod-pow-add i 1 m

-- and begins where that half begins, or a half before it
pub start-halves : (m i : ℕ) → start m i ≡ start (suc m) i + i / 2 ^ m % 2 * 2 ^ m
start-halves m i =
    let q : ℕ = i / 2 ^ m in
    let quotient : i / 2 ^ suc m ≡ q / 2 = ap (λ e. i / 2 ^ e) (omega arith) ∙ sym (shr-shr i m 1) in
    let parts : q ≡ q / 2 * 2 + q % 2 = omega arith in
    ap (λ x. x * 2 ^ m) parts
    ∙ add-mul (q / 2 * 2) (q % 2) (2 ^ m)
    ∙ ap (λ x. x + q % 2 * 2 ^ m)
    (mul_assoc (q / 2) 2 (2 ^ m) ∙ ap₂ ◌*◌ (sym quotient) (mul_comm 2 (2 ^ m) ∙ sym (pow-suc 2 m)))

-- one level down
step : (m i : ℕ) (above here : ℕ → ℤ) (u : ℕ → Bool) → ((k : ℕ) → k < 2 ^ m → here k ≡ halved m above u i k) →
    decision (suc m) above (from (start (suc m) i) u) (i % 2 ^ suc m) ≡ decision m here (from (start m i) u) (i % 2 ^ m)
unfolding halved
step m i above here u made = ⊎_elim low high (cases_Bool (eqb (i / 2 ^ m % 2) 0))
  where
    path : ℕ → Bool
    path = from (start (suc m) i) u

    rest : i % 2 ^ m < 2 ^ m
    rest = mod_below i (2 ^ m) (pow_pos m)

    Goal : Type 0
    Goal = decision (suc m) above path (i % 2 ^ suc m) ≡ decision m here (from (start m i) u) (i % 2 ^ m)

    low : eqb (i / 2 ^ m % 2) 0 ≡ true → Goal
    low e =
        let bit : i / 2 ^ m % 2 ≡ 0 = eqb-true _ 0 e in
        let place : i % 2 ^ suc m ≡ i % 2 ^ m = remainder m i ∙ rw bit (omega arith) in
        let begin : start (suc m) i ≡ start m i = sym (start-halves m i ∙ rw bit (omega arith)) in
        ap (decision (suc m) above path) place
        ∙ decision-first m above path (i % 2 ^ m) rest
        ∙ decision-same m (first m above) here path (i % 2 ^ m) (λ k lt. sym (made k lt ∙ cond-true _ _ _ e))
        ∙ ap (λ s. decision m here (from s u) (i % 2 ^ m)) begin

    high : eqb (i / 2 ^ m % 2) 0 ≡ false → Goal
    high e =
        let nonzero = eqb-false (i / 2 ^ m % 2) 0 e in
        let bit : i / 2 ^ m % 2 ≡ 1 = omega arith in
        let place : i % 2 ^ suc m ≡ 2 ^ m + i % 2 ^ m = remainder m i ∙ rw bit (omega arith) in
        let begin : start m i ≡ start (suc m) i + 2 ^ m = start-halves m i ∙ rw bit (omega arith) in
        ap (decision (suc m) above path) place
        ∙ decision-second m above path (i % 2 ^ m)
        ∙ decision-same m (second m above path) here (from (2 ^ m) path) (i % 2 ^ m) (λ k lt. sym (made k lt ∙ cond-false _ _ _ e))
        ∙ ap (λ v. decision m here v (i % 2 ^ m))
        (fun_ext (λ k. ap u (sym (add_assoc (start (suc m) i) (2 ^ m) k) ∙ ap (λ s. s + k) (sym begin))))

reached : (n m d : ℕ) (llr : ℕ → ℤ) (u : ℕ → Bool) (i : ℕ) (xs : List ℤ) → d + m ≡ n → i < 2 ^ n → Levels n llr u i m xs →
    decision n llr u i ≡ decision m (level xs m) (from (start m i) u) (i % 2 ^ m)
reached n m zero llr u i xs e lt made =
    let same : m ≡ n = omega arith in
    subst (λ k. decision n llr u i ≡ decision k (level xs k) (from (start k i) u) (i % 2 ^ k)) (sym same)
    (decision-same n llr (level xs n) u i (λ k below. sym (made.top k below))
    ∙ ap₂ (decision n (level xs n))
    (fun_ext (λ k. ap u (sym (ap (λ q. q * 2 ^ n + k) (div-eq_of_lt lt) ∙ ap (λ z. z + k) (zero-mul (2 ^ n)) ∙ zero-add k))))
    (sym (mod-eq_of_lt lt)))
reached n m (suc d) llr u i xs e lt made =
    reached n (suc m) d llr u i xs (omega arith) lt
    (record { top = made.top; below = λ j k le. made.below j k (omega arith) })
    ∙ step m i (level xs (suc m)) (level xs m) u (λ k below. made.below m k (omega arith) (omega arith) below)

pub ends-in-decision : (n : ℕ) (llr : ℕ → ℤ) (u : ℕ → Bool) (i : ℕ) (xs : List ℤ) → i < 2 ^ n → Levels n llr u i 0 xs →
    level xs 0 0 ≡ decision n llr u i
unfolding decision
ends-in-decision n llr u i xs lt made = sym (reached n 0 n llr u i xs (omega arith) lt made)

pub halved-le : (m : ℕ) (above : ℕ → ℤ) (u : ℕ → Bool) (i k b : ℕ) → k < 2 ^ m →
    ((j : ℕ) → j < 2 ^ suc m → nat_abs (above j) ≤ b) → nat_abs (halved m above u i k) ≤ b + b
unfolding halved
halved-le m above u i k b lt most =
    let low = most k (omega arith) in
    let high = most (2 ^ m + k) (omega arith) in
    cond_both (eqb (i / 2 ^ m % 2) 0) _ _ (λ v. nat_abs v ≤ b + b)
    (λ _. omega (arith, f-le (above k) (above (2 ^ m + k)) b low high))
    (λ _. g-le (above k) (above (2 ^ m + k)) (code_bit m (from (start (suc m) i) u) k) b low high)
