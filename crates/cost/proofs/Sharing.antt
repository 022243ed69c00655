-- Two positions of two paths have their levels in common from the block on in which both stand, if the paths agree before
-- it; and levels that are in place are small. Assumes nothing.
use Rattle.std.proofs.Common.{◌≡◌, ℕ, zero, suc, ◌+◌, ◌-◌, ◌*◌, ◌/◌, ◌%◌, ◌^◌, ◌<◌, ◌≤◌, Bool, true, false, eqb, List, ℤ, nat_abs, sym, ap, ◌∙◌, subst, ap₂, ⊎_elim, mul-le-mul_right, mul_assoc, mul_comm, div-mul-le_self, arith}
use Rattle.std.proofs.lemmas.Nat.{pow-add, shr-shr}
use Rattle.std.proofs.lemmas.Bool.{cases_Bool, cond-true, cond-false, eqb-false}
use Rattle.base.specs.Transform.{code_bit}
use Rattle.base.proofs.Transform.{code-bit-same}
use Rattle.cost.specs.Values.{g}
use Rattle.cost.specs.Path.{from}
use Rattle.cost.specs.Levels.{start, halved, level, Levels, Filled, Shared}
use Rattle.cost.proofs.Filling.{kept}
use Rattle.cost.proofs.Levels.{halved-le, start-halves}
use Rattle.cost.proofs.Descent.{Descent}

-- the block d levels higher
higher : (d r i : ℕ) → i / 2 ^ (r + d) ≡ i / 2 ^ r / 2 ^ d
higher d r i = sym (shr-shr i r d)

-- a longer block begins no later
start_falls : (d r i : ℕ) → start (r + d) i ≤ start r i
start_falls d r i =
    let q : ℕ = i / 2 ^ r in
    let e : start (r + d) i ≡ q / 2 ^ d * 2 ^ d * 2 ^ r =
    ap₂ ◌*◌ (higher d r i) (pow-add 2 r d ∙ mul_comm (2 ^ r) (2 ^ d)) ∙ sym (mul_assoc (q / 2 ^ d) (2 ^ d) (2 ^ r)) in
    let le : q / 2 ^ d * 2 ^ d * 2 ^ r ≤ q * 2 ^ r = mul-le-mul_right (2 ^ r) (div-mul-le_self q (2 ^ d)) in
    omega arith

-- what is shared at one level is shared at the levels above
shared-up : (d r : ℕ) (u : ℕ → Bool) (i : ℕ) (v : ℕ → Bool) (j : ℕ) → Shared r u i v j → Shared (r + d) u i v j
shared-up d r u i v j s =
    record {
      block = higher d r i ∙ ap (λ q. q / 2 ^ d) s.block ∙ sym (higher d r j);
      path = λ k l. s.path k (omega (arith, start_falls d r i));
    }

-- a level depends on the block and on the bits before it
halved-same : (m : ℕ) (above : ℕ → ℤ) (u : ℕ → Bool) (i : ℕ) (v : ℕ → Bool) (j : ℕ) → Shared m u i v j → (k : ℕ) →
    halved m above v j k ≡ halved m above u i k
unfolding halved
halved-same m above u i v j s k = ⊎_elim low high (cases_Bool (eqb (i / 2 ^ m % 2) 0))
  where
    Goal : Type 0
    Goal = halved m above v j k ≡ halved m above u i k

    test : eqb (j / 2 ^ m % 2) 0 ≡ eqb (i / 2 ^ m % 2) 0
    test = ap (λ q. eqb (q % 2) 0) (sym s.block)

    low : eqb (i / 2 ^ m % 2) 0 ≡ true → Goal
    low e = cond-true _ _ _ (test ∙ e) ∙ sym (cond-true _ _ _ e)

    high : eqb (i / 2 ^ m % 2) 0 ≡ false → Goal
    high e =
        let nonzero = eqb-false (i / 2 ^ m % 2) 0 e in
        let bit : i / 2 ^ m % 2 ≡ 1 = omega arith in
        let begin : start m i ≡ start (suc m) i + 2 ^ m = start-halves m i ∙ rw bit (omega arith) in
        let wider = shared-up 1 m u i v j s in
        let next : m + 1 ≡ suc m = omega arith in
        let base : start (suc m) j ≡ start (suc m) i =
        ap (λ q. q * 2 ^ suc m) (sym (subst (λ p. i / 2 ^ p ≡ j / 2 ^ p) next wider.block)) in
        let coded : code_bit m (from (start (suc m) j) v) k ≡ code_bit m (from (start (suc m) i) u) k =
        code-bit-same m (from (start (suc m) j) v) (from (start (suc m) i) u) k
        (λ p l. ap (λ b. v (b + p)) base ∙ sym (s.path (start (suc m) i + p) (omega arith))) in
        cond-false _ _ _ (test ∙ e) ∙ ap (g (above k) (above (2 ^ m + k))) coded ∙ sym (cond-false _ _ _ e)

-- levels of position j of the path v, as those of position i of u
pub levels-shared : (n r : ℕ) (llr : ℕ → ℤ) (u : ℕ → Bool) (i : ℕ) (v : ℕ → Bool) (j : ℕ) (xs : List ℤ) →
    (r < n → Shared r u i v j) → Levels n llr v j 0 xs → Levels n llr u i r xs
levels-shared n r llr u i v j xs shared made =
    record {
      top = made.top;
      below = λ m k le lt inside.
          let e : r + (m - r) ≡ m = omega arith in
          made.below m k (omega arith) lt inside
          ∙ halved-same m (level xs (suc m)) u i v j (subst (λ p. Shared p u i v j) e (shared-up (m - r) r u i v j (shared (omega arith)))) k;
    }

pub levels-top : (n : ℕ) (llr : ℕ → ℤ) (u : ℕ → Bool) (i : ℕ) (before xs : List ℤ) → Filled (2 ^ n) (2 ^ n) llr before xs → Levels n llr u i n xs
levels-top n llr u i before xs made = record { top = made.filled; below = λ m k le lt. absurd (omega arith) }

-- each level below the top at most doubles the values
levels-small : (n d m : ℕ) (llr : ℕ → ℤ) (u : ℕ → Bool) (i low : ℕ) (xs : List ℤ) → d + m ≡ n → low ≤ m →
    ((k : ℕ) → nat_abs (llr k) ≤ 1048576) → Levels n llr u i low xs → (k : ℕ) → k < 2 ^ m → nat_abs (level xs m k) ≤ 2 ^ (20 + d)
levels-small n zero m llr u i low xs e le most made k lt =
    let same : n ≡ m = omega arith in
    subst (λ p. k < 2 ^ p → nat_abs (level xs p k) ≤ 2 ^ 20) same
    (λ inside. subst (λ v. nat_abs v ≤ 2 ^ 20) (sym (made.top k inside)) (most k)) lt
levels-small n (suc d) m llr u i low xs e le most made k lt =
    let above = levels-small n d (suc m) llr u i low xs (omega arith) (omega arith) most made in
    let wide : 20 + suc d ≡ suc (20 + d) = omega arith in
    subst (λ v. nat_abs v ≤ 2 ^ (20 + suc d)) (sym (made.below m k le (omega arith) lt))
    (subst (λ p. nat_abs (halved m (level xs (suc m)) u i k) ≤ 2 ^ p) (sym wide)
    (omega (arith, halved-le m (level xs (suc m)) u i k (2 ^ (20 + d)) lt above)))

-- so a descent may begin at any level that is in place
pub descent-from : (n : ℕ) (llr : ℕ → ℤ) (u : ℕ → Bool) (i low : ℕ) (xs : List ℤ) → low ≤ n →
    ((k : ℕ) → nat_abs (llr k) ≤ 1048576) → Levels n llr u i low xs → Descent n llr u i low xs xs
descent-from n llr u i low xs le most made =
    record {
      levels = made;
      small = levels-small n (n - low) low llr u i low xs (omega arith) (omega arith) most made;
      around = kept;
    }
