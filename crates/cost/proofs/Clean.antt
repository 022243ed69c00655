-- Where nothing contradicts a codeword: its path costs nothing, and its decision values vanish where the soft values do.
-- Assumes nothing.
use Rattle.std.proofs.Common.{◌≡◌, ℕ, zero, suc, ◌+◌, ◌*◌, ◌^◌, ◌<◌, Bool, true, ◌↔◌, ℤ, pos, sym, ap, ◌∙◌, arith}
use lib.Bits.{bit_and, and_block, and_self}
use Rattle.std.proofs.lemmas.Bool.{eq-eqb, eqb-true}
use Rattle.base.specs.Transform.{code_bit, within}
use Rattle.base.proofs.Transform.{code-bit-low, code-bit-high}
use Rattle.base.proofs.Sums.{sum-none, sum-of-none}
use Rattle.cost.specs.Values.{contradicts}
use Rattle.cost.specs.Path.{decision, first, second, from}
use Rattle.cost.specs.Laws.{Clean, ZerosClosed, CleanPathCostsNothing, CleanBitCostsNothing, CleanPathKeepsZeros, WrongBitCosts}
use Rattle.cost.proofs.Values.{f-zero, zero-f, g-zero, zero-g, other-costs}
use Rattle.cost.proofs.Halves.{by-half, decision-first, decision-second}
use Rattle.cost.proofs.Path.{whole-path, never-falls, against, against-halves}

pub costs-nothing : CleanPathCostsNothing
costs-nothing n llr u clean i le =
    omega (arith, never-falls n llr u i (2 ^ n) le, whole-path n llr u, sum-of-none (against n llr u) (2 ^ n) clean)

pub bit-costs-nothing : CleanBitCostsNothing
bit-costs-nothing n llr u clean =
    sum-none (λ k. contradicts (decision n llr u k) (u k)) (2 ^ n) (costs-nothing n llr u clean (2 ^ n) (omega arith))

-- both halves of a clean path are clean
clean-halves : (n : ℕ) (llr : ℕ → ℤ) (u : ℕ → Bool) → Clean (suc n) llr u → (i : ℕ) → i < 2 ^ n →
    against n (first n llr) u i + against n (second n llr u) (from (2 ^ n) u) i ≡ 0
clean-halves n llr u clean i lt =
    omega (arith, against-halves n llr u i lt, clean i (omega arith), clean (2 ^ n + i) (omega arith))

clean-first : (n : ℕ) (llr : ℕ → ℤ) (u : ℕ → Bool) → Clean (suc n) llr u → Clean n (first n llr) u
clean-first n llr u clean i lt = omega (arith, clean-halves n llr u clean i lt)

clean-second : (n : ℕ) (llr : ℕ → ℤ) (u : ℕ → Bool) → Clean (suc n) llr u → Clean n (second n llr u) (from (2 ^ n) u)
clean-second n llr u clean i lt = omega (arith, clean-halves n llr u clean i lt)

-- a number is a binary subset of itself in the second half, and subsets stay subsets there
within-up : (n i : ℕ) → i < 2 ^ n → within i (2 ^ n + i) ≡ true
within-up n i lt =
    let e = and_block n 0 1 i i lt lt in
    let left : 0 * 2 ^ n + i ≡ i = omega arith in
    let right : 1 * 2 ^ n + i ≡ 2 ^ n + i = omega arith in
    let low : 0 * 2 ^ n + bit_and i i ≡ bit_and i i = omega arith in
    let same = and_self i in
    eq-eqb (bit_and i (2 ^ n + i)) i (cc)

within-both-up : (n i j : ℕ) → i < 2 ^ n → j < 2 ^ n → within i j ≡ true → within (2 ^ n + i) (2 ^ n + j) ≡ true
within-both-up n i j hi hj sub =
    let e = and_block n 1 1 i j hi hj in
    let left : 1 * 2 ^ n + i ≡ 2 ^ n + i = omega arith in
    let right : 1 * 2 ^ n + j ≡ 2 ^ n + j = omega arith in
    let same = eqb-true (bit_and i j) i sub in
    eq-eqb (bit_and (2 ^ n + i) (2 ^ n + j)) (2 ^ n + i) (cc)

-- the first half's values vanish where the soft values of the first half do
first-zero : (n : ℕ) (llr : ℕ → ℤ) → ZerosClosed (suc n) llr → (i : ℕ) → i < 2 ^ n → first n llr i ≡ pos 0 → llr i ≡ pos 0
first-zero n llr closed i lt e =
    f-zero (llr i) (llr (2 ^ n + i))
    (closed i (2 ^ n + i) (omega arith) (omega arith) (within-up n i lt)) e

-- the second half's values vanish where the soft values of the second half do
second-zero : (n : ℕ) (llr : ℕ → ℤ) (u : ℕ → Bool) → Clean (suc n) llr u → (i : ℕ) → i < 2 ^ n →
    second n llr u i ≡ pos 0 → llr (2 ^ n + i) ≡ pos 0
second-zero n llr u clean i lt e =
    g-zero (llr i) (llr (2 ^ n + i)) (code_bit n u i) (code_bit n (from (2 ^ n) u) i)
    (sym (ap (contradicts (llr i)) (code-bit-low n u i lt)) ∙ clean i (omega arith))
    (sym (ap (contradicts (llr (2 ^ n + i))) (code-bit-high n u i lt)) ∙ clean (2 ^ n + i) (omega arith))
    e

zero-second : (n : ℕ) (llr : ℕ → ℤ) (u : ℕ → Bool) → ZerosClosed (suc n) llr → (i : ℕ) → i < 2 ^ n →
    llr (2 ^ n + i) ≡ pos 0 → second n llr u i ≡ pos 0
zero-second n llr u closed i lt e =
    zero-g (llr i) (llr (2 ^ n + i)) (code_bit n u i)
    (closed i (2 ^ n + i) (omega arith) (omega arith) (within-up n i lt) e) e

closed-first : (n : ℕ) (llr : ℕ → ℤ) → ZerosClosed (suc n) llr → ZerosClosed n (first n llr)
closed-first n llr closed i j hi hj sub e =
    zero-f (llr i) (llr (2 ^ n + i))
    (closed i j (omega arith) (omega arith) sub (first-zero n llr closed j hj e))

closed-second : (n : ℕ) (llr : ℕ → ℤ) (u : ℕ → Bool) → Clean (suc n) llr u → ZerosClosed (suc n) llr → ZerosClosed n (second n llr u)
closed-second n llr u clean closed i j hi hj sub e =
    zero-second n llr u closed i hi
    (closed (2 ^ n + i) (2 ^ n + j) (omega arith) (omega arith) (within-both-up n i j hi hj sub)
    (second-zero n llr u clean j hj e))

pub keeps-zeros : CleanPathKeepsZeros
unfolding decision
keeps-zeros zero llr u clean closed i lt =
    let e : i ≡ 0 = omega arith in
    rw e ((λ z. z), (λ z. z))
keeps-zeros (suc n) llr u clean closed i lt =
    by-half (λ p. (decision (suc n) llr u p ≡ pos 0) ↔ (llr p ≡ pos 0)) (2 ^ n) i
    (λ low.
    let half = keeps-zeros n (first n llr) u (clean-first n llr u clean) (closed-first n llr closed) i low in
    let same = decision-first n llr u i low in (
      (λ e. first-zero n llr closed i low (half.0 (sym same ∙ e))),
      (λ e. same ∙ half.1 (zero-f (llr i) (llr (2 ^ n + i)) e)),
    ))
    (λ k e.
    let low : k < 2 ^ n = omega arith in
    let half = keeps-zeros n (second n llr u) (from (2 ^ n) u) (clean-second n llr u clean) (closed-second n llr u clean closed) k low in
    let same = decision-second n llr u k in (
      (λ e. second-zero n llr u clean k low (half.0 (sym same ∙ e))),
      (λ e. same ∙ half.1 (zero-second n llr u closed k low e)),
    ))

pub wrong-bit-costs : WrongBitCosts
wrong-bit-costs n llr u clean closed i lt nonzero =
    other-costs (decision n llr u i) (u i) (bit-costs-nothing n llr u clean i lt)
    (λ e. nonzero ((keeps-zeros n llr u clean closed i lt).0 e))
