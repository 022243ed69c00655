-- The turns of rising and sinking in a heap, and where they end. Assumes nothing.
use Rattle.std.specs.Prelude.{◌≡◌, ℕ, ◌+◌, ◌*◌, ◌/◌, ◌<◌, ◌≤◌, true, false, ◌⊎◌, List, length, ◌≢◌, slice_index_or, slice_set}
use Rattle.std.proofs.Common.{arith, sym, ap, ◌∙◌, inl, inr}
use Rattle.std.proofs.lemmas.Bool.{both_ways, cases_eq}
use Rattle.store.specs.declared.candidate.Candidate.{Candidate}
use Rattle.store.specs.Order.{before}
use Rattle.store.proofs.Candidates.{strict}
use Rattle.store.proofs.Inserts.{by-test, not-before-back, not-before-carries-over}
use Rattle.heap.specs.Sorting.{sorted}
use Rattle.heap.specs.Sorts.{sorted-swap}
use Rattle.heap.specs.Shape.{at, parent, NotBefore, Heaped, Bridged, Rising, Sinking, Child}

-- ys is xs with the places i and j exchanged
pub record Swapped (xs ys : List Candidate) (i j : ℕ) : Type 0 where
  pub first : at ys i ≡ at xs j
  pub second : at ys j ≡ at xs i
  pub others : (k : ℕ) → (k ≢ i) → (k ≢ j) → at ys k ≡ at xs k

pub not-before-earlier : (a b c : Candidate) → before b c ≡ true → before a c ≡ false → before a b ≡ false
not-before-earlier a b c h n = by-test (before a b) (λ t. absurd (both_ways _ n (strict.transitive a b c t h))) (λ f. f)

-- the test at two places goes by what stands there
pub there : (xs ys : List Candidate) (k j a b : ℕ) → at ys k ≡ at xs a → at ys j ≡ at xs b → NotBefore xs a b → NotBefore ys k j
there xs ys k j a b p q h = cc

module _ (xs ys : List Candidate) (n i : ℕ) (rising : Rising xs n i) (up : 0 < i) (within : i < n) (earlier : before (at xs i) (at xs (parent i)) ≡ true) (swapped : Swapped xs ys i (parent i)) where
  rise-heaped : (k : ℕ) → 0 < k → k < n → (k ≢ parent i) → NotBefore ys k (parent k)
  rise-heaped k h l np =
      elim (cases_eq k i) [
        | inl e ↦ let child : at ys k ≡ at xs (parent i) = ap (at ys) e ∙ swapped.first in
            let above : at ys (parent k) ≡ at xs i = ap (λ m. at ys (parent m)) e ∙ swapped.second in
            there xs ys k (parent k) (parent i) i child above (not-before-back before strict _ _ earlier)
        | inr ni ↦ let child : at ys k ≡ at xs k = swapped.others k ni np in
            elim (cases_eq (parent k) i) [
              | inl e ↦ there xs ys k (parent k) k (parent i) child (ap (at ys) e ∙ swapped.first) (rising.bridged k h l e up)
              | inr nb ↦ elim (cases_eq (parent k) (parent i)) [
                | inl e ↦ there xs ys k (parent k) k i child (ap (at ys) e ∙ swapped.second)
                    (not-before-earlier (at xs k) (at xs i) (at xs (parent i)) earlier (ap (λ m. before (at xs k) (at xs m)) (sym e) ∙ rising.heaped k h l ni))
                | inr nc ↦ there xs ys k (parent k) k (parent k) child (swapped.others (parent k) nb nc) (rising.heaped k h l ni)
              ]
            ]
      ]

  rise-bridged : Bridged ys n (parent i)
  rise-bridged k h l e p =
      let above : at ys (parent (parent i)) ≡ at xs (parent (parent i)) = swapped.others (parent (parent i)) (λ q. omega arith) (λ q. omega arith) in
      let over : NotBefore xs (parent i) (parent (parent i)) = rising.heaped (parent i) p (omega arith) (λ q. omega arith) in
      elim (cases_eq k i) [
        | inl q ↦ there xs ys k (parent (parent i)) (parent i) (parent (parent i)) (ap (at ys) q ∙ swapped.first) above over
        | inr q ↦ there xs ys k (parent (parent i)) k (parent (parent i)) (swapped.others k q (λ r. omega arith)) above
            (not-before-carries-over before strict (at xs k) (at xs (parent i)) (at xs (parent (parent i))) (ap (λ m. before (at xs k) (at xs m)) (sym e) ∙ rising.heaped k h l q) over)
      ]

  pub rise-more : Rising ys n (parent i)
  rise-more = record { heaped = rise-heaped; bridged = rise-bridged }

pub rise-top : (xs : List Candidate) (n i : ℕ) → Rising xs n i → i ≡ 0 → Heaped xs n
rise-top xs n i r e k h l = r.heaped k h l (λ q. omega arith)

pub rise-stop : (xs : List Candidate) (n i : ℕ) → Rising xs n i → NotBefore xs i (parent i) → Heaped xs n
rise-stop xs n i r f k h l =
    elim (cases_eq k i)
    [ inl e ↦ there xs xs k (parent k) i (parent i) (ap (at xs) e) (ap (λ m. at xs (parent m)) e) f | inr e ↦ r.heaped k h l e ]

module _ (xs ys : List Candidate) (n i j : ℕ) (sinking : Sinking xs n i) (child : Child xs n i j) where
  module _ (earlier : before (at xs j) (at xs i) ≡ true) (swapped : Swapped xs ys i j) where
    sink-heaped : (k : ℕ) → 0 < k → k < n → (parent k ≢ j) → NotBefore ys k (parent k)
    sink-heaped k h l nj =
        elim (cases_eq k i) [
          | inl e ↦ let ni : parent k ≡ i → ⊥ = λ q. omega arith in
              there xs ys k (parent k) j (parent i) (ap (at ys) e ∙ swapped.first) (swapped.others (parent k) ni nj ∙ ap (λ m. at xs (parent m)) e)
              (sinking.bridged j child.above child.within child.below (omega arith))
          | inr ni ↦ elim (cases_eq k j) [
            | inl e ↦ there xs ys k (parent k) i j (ap (at ys) e ∙ swapped.second) (ap (λ m. at ys (parent m)) e ∙ ap (at ys) child.below ∙ swapped.first)
                (not-before-back before strict _ _ earlier)
            | inr nk ↦ elim (cases_eq (parent k) i) [
              | inl e ↦ there xs ys k (parent k) k j (swapped.others k ni nk) (ap (at ys) e ∙ swapped.first) (child.first k h l e)
              | inr ne ↦ there xs ys k (parent k) k (parent k) (swapped.others k ni nk) (swapped.others (parent k) ne nj) (sinking.heaped k h l ne)
            ]
          ]
        ]

    sink-bridged : Bridged ys n j
    sink-bridged k h l e p =
        let low : i < j = omega (arith, child.below, child.above) in
        there xs ys k (parent j) k (parent k) (swapped.others k (λ q. omega arith) (λ q. omega arith))
        (ap (at ys) child.below ∙ swapped.first ∙ ap (at xs) (sym e)) (sinking.heaped k h l (λ q. omega arith))

    pub sink-more : Sinking ys n j
    sink-more = record { heaped = sink-heaped; bridged = sink-bridged }

  pub sink-stop : NotBefore xs j i → Heaped xs n
  sink-stop f k h l =
      elim (cases_eq (parent k) i) [
        | inl e ↦ ap (λ m. before (at xs k) (at xs m)) e ∙ not-before-carries-over before strict (at xs k) (at xs j) (at xs i) (child.first k h l e) f
        | inr e ↦ sinking.heaped k h l e
      ]

pub sink-bottom : (xs : List Candidate) (n i : ℕ) → Sinking xs n i → n / 2 ≤ i → Heaped xs n
sink-bottom xs n i s b k h l = s.heaped k h l (λ q. omega arith)

-- a child of p stands at one of two places
child-places : (k p : ℕ) → 0 < k → parent k ≡ p → (k ≡ 2 * p + 1) ⊎ (k ≡ 2 * p + 1 + 1)
child-places k p h e = elim (cases_eq k (2 * p + 1)) [ inl q ↦ inl q | inr q ↦ inr (omega arith) ]

pub right-first :
    (xs : List Candidate) (n p : ℕ) → 2 * p + 1 + 1 < n → before (at xs (2 * p + 1 + 1)) (at xs (2 * p + 1)) ≡ true
    → Child xs n p (2 * p + 1 + 1)
right-first xs n p l h = record {
  above = omega arith;
  within = l;
  below = omega arith;
  first = λ k a b e. elim (child-places k p a e) [
    | inl q ↦ ap (λ m. before (at xs m) (at xs (2 * p + 1 + 1))) q ∙ not-before-back before strict _ _ h
    | inr q ↦ ap (λ m. before (at xs m) (at xs (2 * p + 1 + 1))) q ∙ strict.irreflexive _
  ];
}

pub left-first :
    (xs : List Candidate) (n p : ℕ) → 2 * p + 1 < n → (2 * p + 1 + 1 < n → NotBefore xs (2 * p + 1 + 1) (2 * p + 1))
    → Child xs n p (2 * p + 1)
left-first xs n p l h = record {
  above = omega arith;
  within = l;
  below = omega arith;
  first = λ k a b e. elim (child-places k p a e) [
    | inl q ↦ ap (λ m. before (at xs m) (at xs (2 * p + 1))) q ∙ strict.irreflexive _
    | inr q ↦ ap (λ m. before (at xs m) (at xs (2 * p + 1))) q ∙ h (omega arith)
  ];
}

-- one slot more is looked at for the last
module _ (xs : List Candidate) (start last i : ℕ) (found : (k : ℕ) → start ≤ k → k < i → NotBefore xs last k) where
  pub last-here : before (at xs last) (at xs i) ≡ true → (k : ℕ) → start ≤ k → k < i + 1 → NotBefore xs i k
  last-here h k a b =
      elim (cases_eq k i) [
        | inl e ↦ ap (λ m. before (at xs i) (at xs m)) e ∙ strict.irreflexive _
        | inr e ↦ by-test (before (at xs i) (at xs k))
            (λ t. absurd (both_ways _ (found k a (omega (arith, e))) (strict.transitive _ _ _ h t)))
            (λ f. f)
      ]

  pub last-before : NotBefore xs last i → (k : ℕ) → start ≤ k → k < i + 1 → NotBefore xs last k
  last-before h k a b =
      elim (cases_eq k i) [ inl e ↦ ap (λ m. before (at xs last) (at xs m)) e ∙ h | inr e ↦ found k a (omega (arith, e)) ]

-- what `swap` says of its places
pub swapped-places :
    (xs ys : List Candidate) (i j : ℕ) → ((d : Candidate) → slice_index_or ys i d ≡ slice_index_or xs j d) → ((d : Candidate) → slice_index_or ys j d ≡ slice_index_or xs i d)
    → ((k : ℕ) (d : Candidate) → (k ≢ i) → (k ≢ j) → slice_index_or ys k d ≡ slice_index_or xs k d) → Swapped xs ys i j
swapped-places xs ys i j p q r = record { first = p _; second = q _; others = λ k. r k _ }

-- and of the elements in order
pub swapped-sorted :
    (xs ys : List Candidate) (i j : ℕ) → i < length xs → j < length xs
    → ((d : Candidate) → ys ≡ slice_set (slice_set xs i (slice_index_or xs j d)) j (slice_index_or xs i d)) → sorted before ys ≡ sorted before xs
swapped-sorted xs ys i j h k e =
    let d = at xs i in
    ap (sorted before) (e d) ∙ sorted-swap before strict xs i j d h k
