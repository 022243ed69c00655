-- A whole path costs what its codeword contradicts; cost never falls and is bounded; decision values are bounded
-- and look back. Assumes nothing.
use Rattle.std.proofs.Common.{◌≡◌, ℕ, zero, suc, ◌+◌, ◌-◌, ◌*◌, ◌^◌, ◌<◌, ◌≤◌, Bool, cond, ltb, ℤ, nat_abs, sym, refl, ap, ◌∙◌, ap₂, add-mul, mul-add, add-one, arith, pow_mono}
use mathlib.Core.Path.{fun_ext}
use Rattle.std.proofs.lemmas.Bool.{cond_both}
use Rattle.base.specs.Counts.{sum_below, xor_below}
use Rattle.base.specs.Transform.{code_bit}
use Rattle.base.proofs.Transform.{code-bit-low, code-bit-high, code-bit-same, xor-false-l}
use Rattle.base.proofs.Sums.{sum-split, sum_same, sum-add, sum-le, sum-most, sum-rises}
use Rattle.cost.specs.Values.{contradicts, f, g}
use Rattle.cost.specs.Path.{decision, first, second, from, cost}
use Rattle.cost.specs.Laws.{WholePathCostsContradictions, CostNeverFalls, CostAtMostMagnitudes, CostFits, DecisionBounded, DecisionLooksBack, CostLooksBack}
use Rattle.cost.proofs.Values.{pair-identity, contradicts-le, f-le, g-le}
use Rattle.cost.proofs.Halves.{by-half, doubled, decision-first, decision-second}

-- the cost of two halves
pub cost-halves : (n : ℕ) (llr : ℕ → ℤ) (u : ℕ → Bool) →
    cost (suc n) llr u (2 ^ n + 2 ^ n)
    ≡ cost n (first n llr) u (2 ^ n) + cost n (second n llr u) (from (2 ^ n) u) (2 ^ n)
cost-halves n llr u =
    sum-split (λ k. contradicts (decision (suc n) llr u k) (u k)) (2 ^ n) (2 ^ n)
    ∙ ap₂ ◌+◌
    (sum_same _ _ (2 ^ n) (λ k lt. ap (λ v. contradicts v (u k)) (decision-first n llr u k lt)))
    (sum_same _ _ (2 ^ n) (λ k lt. ap (λ v. contradicts v (u (2 ^ n + k))) (decision-second n llr u k)))

abbrev pub against : ℕ → (ℕ → ℤ) → (ℕ → Bool) → ℕ → ℕ
against n llr u i = contradicts (llr i) (code_bit n u i)

pub against-halves : (n : ℕ) (llr : ℕ → ℤ) (u : ℕ → Bool) (i : ℕ) → i < 2 ^ n →
    against n (first n llr) u i + against n (second n llr u) (from (2 ^ n) u) i
    ≡ against (suc n) llr u i + against (suc n) llr u (2 ^ n + i)
against-halves n llr u i lt =
    pair-identity (llr i) (llr (2 ^ n + i)) (code_bit n u i) (code_bit n (from (2 ^ n) u) i)
    ∙ ap₂ ◌+◌ (ap (contradicts (llr i)) (sym (code-bit-low n u i lt)))
    (ap (contradicts (llr (2 ^ n + i))) (sym (code-bit-high n u i lt)))

pub whole-path : WholePathCostsContradictions
unfolding sum_below xor_below decision
whole-path zero llr u = ap (λ b. 0 + contradicts (llr 0) b) (sym (xor-false-l (u 0)))
whole-path (suc n) llr u =
    let m : ℕ = 2 ^ n in
    let twice : 2 ^ suc n ≡ m + m = doubled n in
    ap (cost (suc n) llr u) twice
    ∙ cost-halves n llr u
    ∙ ap₂ ◌+◌ (whole-path n (first n llr) u) (whole-path n (second n llr u) (from m u))
    ∙ sym (sum-add (against n (first n llr) u) (against n (second n llr u) (from m u)) m)
    ∙ sum_same _ _ m (against-halves n llr u)
    ∙ sum-add (against (suc n) llr u) (λ i. against (suc n) llr u (m + i)) m
    ∙ sym (ap (sum_below (against (suc n) llr u)) twice ∙ sum-split (against (suc n) llr u) m m)

pub never-falls : CostNeverFalls
never-falls n llr u i j le = sum-rises (λ k. contradicts (decision n llr u k) (u k)) i j le

pub at-most-magnitudes : CostAtMostMagnitudes
at-most-magnitudes n llr u i le =
    omega (
      arith,
      never-falls n llr u i (2 ^ n) le,
      whole-path n llr u,
      sum-le (against n llr u) (λ k. nat_abs (llr k)) (2 ^ n) (λ k lt. contradicts-le (llr k) (code_bit n u k)),
    )

pub cost-fits : CostFits
cost-fits n llr u small most i le =
    let size : 2 ^ n ≤ 2 ^ 10 = pow_mono small in
    omega (arith, at-most-magnitudes n llr u i le, sum-most (λ k. nat_abs (llr k)) 1048576 (2 ^ n) most)

-- one bit more
pub cost-more : (n : ℕ) (llr : ℕ → ℤ) (u : ℕ → Bool) (i total bit : ℕ) → total ≡ cost n llr u i →
    bit ≡ contradicts (decision n llr u i) (u i) → total + bit ≡ cost n llr u (i + 1)
unfolding sum_below
cost-more n llr u i total bit p q = ap₂ ◌+◌ p q ∙ ap (cost n llr u) (sym (add-one i))

-- values that agree below 2 ^ n give the same decision values
pub decision-same : (n : ℕ) (a b : ℕ → ℤ) (u : ℕ → Bool) (i : ℕ) → ((k : ℕ) → k < 2 ^ n → a k ≡ b k) →
    decision n a u i ≡ decision n b u i
unfolding decision
decision-same zero a b u i same = same 0 (omega arith)
decision-same (suc n) a b u i same =
    ap₂ (cond (ltb i (2 ^ n)))
    (decision-same n (first n a) (first n b) u i (λ k lt. ap₂ f (low k lt) (high k lt)))
    (decision-same n (second n a u) (second n b u) (from (2 ^ n) u) (i - 2 ^ n)
    (λ k lt. ap₂ (λ x y. g x y (code_bit n u k)) (low k lt) (high k lt)))
  where
    low : (k : ℕ) → k < 2 ^ n → a k ≡ b k
    low k lt = same k (omega (arith, doubled n))

    high : (k : ℕ) → k < 2 ^ n → a (2 ^ n + k) ≡ b (2 ^ n + k)
    high k lt = same (2 ^ n + k) (omega (arith, doubled n))

pub looks-back : DecisionLooksBack
unfolding decision
looks-back zero llr u v i same = refl
looks-back (suc n) llr u v i same =
    by-half (λ p. decision (suc n) llr u p ≡ decision (suc n) llr v p) (2 ^ n) i
    (λ lt.
    decision-first n llr u i lt ∙ looks-back n (first n llr) u v i same ∙ sym (decision-first n llr v i lt))
    (λ k e.
    let values : second n llr u ≡ second n llr v =
    fun_ext (λ j. ap (g (llr j) (llr (2 ^ n + j))) (code-bit-same n u v j (λ p lt. same p (omega arith)))) in
    decision-second n llr u k
    ∙ ap (λ x. decision n x (from (2 ^ n) u) k) values
    ∙ looks-back n (second n llr v) (from (2 ^ n) u) (from (2 ^ n) v) k (λ p lt. same (2 ^ n + p) (omega arith))
    ∙ sym (decision-second n llr v k))

pub cost-looks-back : CostLooksBack
cost-looks-back n llr u v i same =
    sum_same _ _ i (λ k lt. ap₂ contradicts (looks-back n llr u v k (λ j below. same j (omega arith))) (same k lt))

pub decision-bounded : DecisionBounded
unfolding decision
decision-bounded zero llr u m most i = omega (arith, most 0 (omega arith))
decision-bounded (suc n) llr u m most i =
    cond_both (ltb i (2 ^ n)) _ _ (λ v. nat_abs v ≤ 2 ^ suc n * m)
    (λ _. omega (arith, wide, decision-bounded n (first n llr) u m (λ k lt. f-le (llr k) (llr (2 ^ n + k)) m (low k lt) (high k lt)) i))
    (λ _. omega (
      arith,
      wide,
      mul-add (2 ^ n) m m,
      decision-bounded n (second n llr u) (from (2 ^ n) u) (m + m)
          (λ k lt. g-le (llr k) (llr (2 ^ n + k)) (code_bit n u k) m (low k lt) (high k lt)) (i - 2 ^ n),
    ))
  where
    wide : 2 ^ suc n * m ≡ 2 ^ n * m + 2 ^ n * m
    wide = ap (λ x. x * m) (doubled n) ∙ add-mul (2 ^ n) (2 ^ n) m

    low : (k : ℕ) → k < 2 ^ n → nat_abs (llr k) ≤ m
    low k lt = most k (omega (arith, doubled n))

    high : (k : ℕ) → k < 2 ^ n → nat_abs (llr (2 ^ n + k)) ≤ m
    high k lt = most (2 ^ n + k) (omega (arith, doubled n))
