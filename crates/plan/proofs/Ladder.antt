-- The table of positions by reliability: it rises strictly and holds every position once. Assumes nothing.
use Rattle.std.proofs.Common.{◌≡◌, ℕ, zero, suc, ◌<◌, Bool, true, ◌&&◌, ltb, leb, List, [], ◌∷◌, length, get_or, sym, refl, ap, ◌∙◌, subst, inl, inr, arith}
use Rattle.std.proofs.lemmas.Bool.{and_parts, cases_Bool, cases_order, both_ways, ltb-true, le-leb, lt-leb}
use Rattle.std.proofs.lemmas.Bool.Decides.{nat_tests}
use Rattle.base.specs.Counts.{count_below, sum_below}
use Rattle.base.proofs.Counts.{onto, count-along}
use Rattle.plan.specs.Reliability.{weight, more_reliable, StrictTotal, ladder}

pub reliability-total : StrictTotal more_reliable
reliability-total = record {
  irreflexive = λ i. grind (arith, nat_tests);
  transitive = λ i j k a b. grind (arith, nat_tests);
  total = λ i j ne. elim (cases_Bool (more_reliable i j)) [ inl s ↦ inl s | inr s ↦ inr (grind (arith, nat_tests)) ];
}

-- each entry is more reliable than the one before it, and below the bound
rising : (above : ℕ → ℕ → Bool) → ℕ → ℕ → List ℕ → Bool
rising above bound x [] = ltb x bound
rising above bound x (y ∷ zs) = ltb x bound && (above y x && rising above bound y zs)

module _ (above : ℕ → ℕ → Bool) (order : StrictTotal above) (bound : ℕ) where
  rising_inside : (x : ℕ) (zs : List ℕ) → rising above bound x zs ≡ true → (k : ℕ) → k < length (x ∷ zs) → get_or (x ∷ zs) k 0 < bound
  unfolding rising
  rising_inside x [] h zero l = ltb-true x bound h
  rising_inside x [] h (suc k) l = absurd (omega arith)
  rising_inside x (y ∷ zs) h zero l = ltb-true x bound (and_parts _ _ h).0
  rising_inside x (y ∷ zs) h (suc k) l =
      rising_inside y zs (and_parts (above y x) (rising above bound y zs) (and_parts (ltb x bound) _ h).1).1 k (omega arith)

  rising-head : (x : ℕ) (zs : List ℕ) → rising above bound x zs ≡ true → (k : ℕ) → k < length zs → above (get_or zs k 0) x ≡ true
  unfolding rising
  rising-head x [] h k l = absurd (omega arith)
  rising-head x (y ∷ zs) h zero l = (and_parts (above y x) (rising above bound y zs) (and_parts (ltb x bound) _ h).1).0
  rising-head x (y ∷ zs) h (suc k) l =
      let parts = and_parts (above y x) (rising above bound y zs) (and_parts (ltb x bound) _ h).1 in
      order.transitive (get_or zs k 0) y x (rising-head y zs parts.1 k (omega arith)) parts.0

  rising-later : (x : ℕ) (zs : List ℕ) → rising above bound x zs ≡ true → (j k : ℕ) → j < k → k < length (x ∷ zs)
      → above (get_or (x ∷ zs) k 0) (get_or (x ∷ zs) j 0) ≡ true
  unfolding rising
  rising-later x zs h j zero m l = absurd (omega arith)
  rising-later x zs h zero (suc k) m l = rising-head x zs h k (omega arith)
  rising-later x [] h (suc j) (suc k) m l = absurd (omega arith)
  rising-later x (y ∷ zs) h (suc j) (suc k) m l =
      rising-later y zs (and_parts (above y x) (rising above bound y zs) (and_parts (ltb x bound) _ h).1).1 j k (omega arith) (omega arith)

first : List ℕ → ℕ
first [] = 0
first (x ∷ xs) = x

rest : List ℕ → List ℕ
rest [] = []
rest (x ∷ xs) = xs

-- the computed test of the whole table
ladder-rises : rising more_reliable 1024 (first ladder) (rest ladder) ≡ true
unfolding ladder weight sum_below rising first rest
ladder-rises = refl

pub ladder-length : length ladder ≡ 1024
unfolding ladder
ladder-length = refl

abbrev pub rung_at : ℕ → ℕ
rung_at k = get_or ladder k 0

ladder-split : first ladder ∷ rest ladder ≡ ladder
unfolding ladder first rest
ladder-split = refl

-- what holds of the table as a list, by its length
along-ladder : (P : List ℕ → ℕ → Type 0) → ((k : ℕ) → k < length (first ladder ∷ rest ladder) → P (first ladder ∷ rest ladder) k)
    → (k : ℕ) → k < 1024 → P ladder k
along-ladder P h k l =
    subst (λ xs. (k : ℕ) → k < length xs → P xs k) ladder-split h k (subst (λ n. k < n) (sym ladder-length) l)

pub rung-inside : (k : ℕ) → k < 1024 → rung_at k < 1024
rung-inside =
    along-ladder (λ xs k. get_or xs k 0 < 1024) (rising_inside more_reliable reliability-total 1024 (first ladder) (rest ladder) ladder-rises)

-- a later rung is more reliable
pub rung-later : (j k : ℕ) → j < k → k < 1024 → more_reliable (rung_at k) (rung_at j) ≡ true
rung-later j k m l =
    along-ladder (λ xs k. (j : ℕ) → j < k → more_reliable (get_or xs k 0) (get_or xs j 0) ≡ true)
    (λ k l j m. rising-later more_reliable reliability-total 1024 (first ladder) (rest ladder) ladder-rises j k m l) k l j m

pub rung-apart : (j k : ℕ) → j < 1024 → k < 1024 → rung_at j ≡ rung_at k → j ≡ k
rung-apart j k l m e =
    elim (cases_order j k) [
      | inl s ↦ s
      | inr o ↦ elim o [
        | inl s ↦ absurd (both_ways (more_reliable (rung_at k) (rung_at j)) (ap (λ x. more_reliable (rung_at k) x) e ∙ reliability-total.irreflexive (rung_at k)) (rung-later j k s m))
        | inr s ↦ absurd (both_ways (more_reliable (rung_at j) (rung_at k)) (ap (λ x. more_reliable x (rung_at k)) e ∙ reliability-total.irreflexive (rung_at k)) (rung-later k j s l))
      ]
    ]

-- every position has a rung
pub rung-onto : (i : ℕ) → i < 1024 → (k : ℕ) × (k < 1024) × (rung_at k ≡ i)
rung-onto = onto rung_at 1024 rung-inside rung-apart

pub rung-count : (p : ℕ → Bool) → count_below (λ k. p (rung_at k)) 1024 ≡ count_below p 1024
rung-count = count-along rung_at 1024 rung-inside rung-apart

-- a rung is more reliable exactly if it is later
pub rung-order : (j k : ℕ) → j < 1024 → k < 1024 → more_reliable (rung_at j) (rung_at k) ≡ leb (suc k) j
rung-order j k l m =
    elim (cases_order k j) [
      | inl s ↦ ap (λ x. more_reliable (rung_at x) (rung_at k)) (sym s) ∙ reliability-total.irreflexive (rung_at k) ∙ sym (lt-leb (suc k) j (omega arith))
      | inr o ↦ elim o [
        | inl s ↦ rung-later k j s l ∙ sym (le-leb (suc k) j s)
        | inr s ↦ elim (cases_Bool (more_reliable (rung_at j) (rung_at k))) [
          | inl t ↦ absurd (both_ways (more_reliable (rung_at j) (rung_at j)) (reliability-total.irreflexive (rung_at j))
              (reliability-total.transitive (rung_at j) (rung_at k) (rung_at j) t (rung-later j k s m)))
          | inr t ↦ t ∙ sym (lt-leb (suc k) j (omega arith))
        ]
      ]
    ]
