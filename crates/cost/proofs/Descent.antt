-- Scratch on the way down the levels: what each level's filling leaves. Assumes nothing.
use Rattle.std.proofs.Common.{◌≡◌, ℕ, suc, ◌+◌, ◌-◌, ◌*◌, ◌/◌, ◌%◌, ◌^◌, ◌<◌, ◌≤◌, Bool, true, List, ℤ, nat_abs, sym, refl, ap, ◌∙◌, subst, ⊎_elim, le_trans, mul_assoc, mul_comm, pow-suc, div-mul-le_self, arith, pow_mono}
use mathlib.Core.Path.{fun_ext}
use native.Mathlib.Nat.{mul-mod_left}
use Rattle.std.proofs.lemmas.Bool.{eq-eqb, ne_eqb, cond-true, cond-false, and_from, le-leb, lt-ltb, cases_eq}
use Rattle.base.specs.Counts.{sum_below}
use Rattle.base.specs.Transform.{code_bit}
use Rattle.bits.specs.Row.{is_aligned_block}
use Rattle.cost.specs.Values.{g}
use Rattle.cost.specs.Path.{cost, from}
use Rattle.cost.specs.Path as path
use Rattle.cost.specs.Levels.{start, halved, level, Levels, Filled, KeptAround}
use Rattle.cost.proofs.Filling.{filled-same, kept, kept-on, kept-filled}
use Rattle.cost.proofs.Levels.{halved-le}

-- the level filled with first-half values, or with second-half values, is the one of position i
pub fill-low : (m i : ℕ) (above : ℕ → ℤ) (u : ℕ → Bool) (before after : List ℤ) → i / 2 ^ m % 2 ≡ 0 →
    Filled (2 ^ m) (2 ^ m) (path.first m above) before after → Filled (2 ^ m) (2 ^ m) (halved m above u i) before after
unfolding halved
fill-low m i above u before after bit =
    filled-same (2 ^ m) (2 ^ m) (path.first m above) (halved m above u i) before after
    (λ k lt. sym (cond-true _ _ _ (eq-eqb (i / 2 ^ m % 2) 0 bit)))

pub fill-high : (m i base : ℕ) (above : ℕ → ℤ) (u code : ℕ → Bool) (before after : List ℤ) →
    (i / 2 ^ m % 2 ≡ 0 → ⊥) → base ≡ start (suc m) i →
    ((k : ℕ) → k < 2 ^ m → code (base + k) ≡ code_bit m (λ j. u (base + j)) k) →
    Filled (2 ^ m) (2 ^ m) (λ k. g (above k) (above (2 ^ m + k)) (code (base + k))) before after →
    Filled (2 ^ m) (2 ^ m) (halved m above u i) before after
unfolding halved
fill-high m i base above u code before after bit e coded =
    filled-same (2 ^ m) (2 ^ m) _ (halved m above u i) before after
    (λ k lt.
    ap (g (above k) (above (2 ^ m + k))) (coded k lt ∙ ap (λ s. code_bit m (from s u) k) e)
    ∙ sym (cond-false _ _ _ (ne_eqb (i / 2 ^ m % 2) 0 bit)))

-- the first half of the block that holds i is an aligned block of the row
pub first-half-block : (m i : ℕ) → m < 10 → i < 1024 → is_aligned_block (start (suc m) i) m ≡ true
first-half-block m i small inside =
    let even : start (suc m) i ≡ i / 2 ^ suc m * 2 * 2 ^ m =
    ap (λ p. i / 2 ^ suc m * p) (pow-suc 2 m ∙ mul_comm (2 ^ m) 2) ∙ sym (mul_assoc (i / 2 ^ suc m) 2 (2 ^ m)) in
    and_from _ _ (le-leb m 10 (omega arith))
    (and_from _ _ (lt-ltb _ 1024 (omega (arith, div-mul-le_self i (2 ^ suc m))))
    (eq-eqb _ 0 (ap (λ x. x % 2 ^ m) even ∙ mul-mod_left (i / 2 ^ suc m * 2) (2 ^ m))))

-- levels m to n are in place and small, and nothing before level 0 or past level n has changed
pub record Descent (n : ℕ) (llr : ℕ → ℤ) (u : ℕ → Bool) (i m : ℕ) (before xs : List ℤ) : Type 0 where
  pub levels : Levels n llr u i m xs
  pub small : (k : ℕ) → k < 2 ^ m → nat_abs (level xs m k) ≤ 2 ^ (20 + (n - m))
  pub around : KeptAround n before xs

pub descent-step : (n : ℕ) (llr : ℕ → ℤ) (u : ℕ → Bool) (i m : ℕ) (before xs ys : List ℤ) → m < n →
    Filled (2 ^ m) (2 ^ m) (halved m (level xs (suc m)) u i) xs ys → Descent n llr u i (suc m) before xs → Descent n llr u i m before ys
descent-step n llr u i m before xs ys lt made down =
    record {
      levels = record {
        top = λ k below. stays n k lt ∙ down.levels.top k below;
        below = λ j k le below inside. ⊎_elim (here j k inside) (higher j k le below inside) (cases_eq j m);
      };
      small = λ k inside.
          let e : 20 + (n - m) ≡ suc (20 + (n - suc m)) = omega arith in
          subst (λ p. nat_abs (level ys m k) ≤ 2 ^ p) (sym e)
          (subst (λ v. nat_abs v ≤ 2 ^ suc (20 + (n - suc m))) (sym (made.filled k inside))
          (omega (arith, halved-le m (level xs (suc m)) u i k (2 ^ (20 + (n - suc m))) inside down.small)));
      around = kept-on down.around (kept-filled m n _ xs ys (omega arith) made);
    }
  where
    stays : (j k : ℕ) → m < j → level ys j k ≡ level xs j k
    stays j k le = let wide : 2 ^ suc m ≤ 2 ^ j = pow_mono le in made.above (2 ^ j + k) (omega arith)

    same : level ys (suc m) ≡ level xs (suc m)
    same = fun_ext (λ k. stays (suc m) k (omega arith))

    Goal : ℕ → ℕ → Type 0
    Goal j k = level ys j k ≡ halved j (level ys (suc j)) u i k

    here : (j k : ℕ) → k < 2 ^ j → j ≡ m → Goal j k
    here j k inside e =
        subst (λ p. k < 2 ^ p → Goal p k) (sym e)
        (λ low. made.filled k low ∙ ap (λ above. halved m above u i k) (sym same)) inside

    higher : (j k : ℕ) → m ≤ j → j < n → k < 2 ^ j → (j ≡ m → ⊥) → Goal j k
    higher j k le below inside other =
        stays j k (omega arith)
        ∙ down.levels.below j k (omega arith) below inside
        ∙ ap (λ above. halved j above u i k) (sym (fun_ext (λ p. stays (suc j) p (omega arith))))

-- the turn of a loop that counts m down
pub descent-turn : (n : ℕ) (llr : ℕ → ℤ) (u : ℕ → Bool) (i m : ℕ) (before xs ys : List ℤ) → 0 < m → m ≤ n →
    Filled (2 ^ (m - 1)) (2 ^ (m - 1)) (halved (m - 1) (level xs (suc (m - 1))) u i) xs ys →
    Descent n llr u i m before xs → Descent n llr u i (m - 1) before ys
descent-turn n llr u i m before xs ys some le made down =
    let e : m ≡ suc (m - 1) = omega arith in
    descent-step n llr u i (m - 1) before xs ys (omega arith) made (subst (λ p. Descent n llr u i p before xs) e down)

-- at most 2 ^ 10 values within 2 ^ 20 leave room for a sum of two in 32 bits
pub descent-small : (n : ℕ) (llr : ℕ → ℤ) (u : ℕ → Bool) (i m : ℕ) (before xs : List ℤ) → 0 < m → m ≤ n → n ≤ 10 →
    Descent n llr u i m before xs → (k : ℕ) → k < 2 ^ suc (m - 1) → nat_abs (level xs (suc (m - 1)) k) ≤ 2 ^ 29
descent-small n llr u i m before xs some le most down k =
    let e : m ≡ suc (m - 1) = omega arith in
    subst (λ p. k < 2 ^ p → nat_abs (level xs p k) ≤ 2 ^ 29) e
    (λ lt. le_trans (down.small k lt) (pow_mono {i = 20 + (n - m)} {j = 29} (omega arith)))

-- the first i bits of a path are summed up, and scratch is as the last of them left it
pub record Walked (n : ℕ) (llr : ℕ → ℤ) (u : ℕ → Bool) (i total : ℕ) (before xs : List ℤ) : Type 0 where
  pub sum : total ≡ cost n llr u i
  pub levels : 0 < i → Levels n llr u (i - 1) 0 xs
  pub untouched : i ≡ 0 → xs ≡ before
  pub around : KeptAround n before xs

pub walked_none : (n : ℕ) (llr : ℕ → ℤ) (u : ℕ → Bool) (xs : List ℤ) → Walked n llr u 0 0 xs xs
unfolding sum_below
walked_none n llr u xs =
    record { sum = refl; levels = λ lt. absurd (omega arith); untouched = λ _. refl; around = kept }

pub walked_more : (n : ℕ) (llr : ℕ → ℤ) (u : ℕ → Bool) (i total more : ℕ) (before xs ys : List ℤ) → more ≡ cost n llr u (i + 1) →
    Levels n llr u i 0 ys → KeptAround n xs ys → Walked n llr u i total before xs → Walked n llr u (i + 1) more before ys
walked_more n llr u i total more before xs ys sum levels around walked =
    let e : i ≡ i + 1 - 1 = omega arith in
    record {
      sum = sum;
      levels = λ _. subst (λ p. Levels n llr u p 0 ys) e levels;
      untouched = λ none. absurd (omega arith);
      around = kept-on walked.around around;
    }
