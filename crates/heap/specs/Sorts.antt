-- Sorting by insertion: the order in which elements come does not matter. Assumes a strict total test.
use Rattle.std.specs.Prelude.{◌≡◌, ℕ, zero, suc, ◌<◌, Bool, true, false, List, [], ◌∷◌, ◌++◌, length, get_or, set, slice_index_or, slice_set}
use native.Mathlib.Omega.{arith}
use Rattle.std.proofs.Math.Path.{refl, sym, ap}
use Rattle.std.proofs.Common.{◌∙◌, inl, inr}
use Rattle.std.specs.List.{AllByRecursion}
use Rattle.std.proofs.lemmas.List.{get_or-set_same, get_or-set_other, length-set}
use Rattle.std.proofs.lemmas.Bool.{and_from, both_ways, cases_eq, not_from_false}
use Rattle.store.specs.Ordered.{inserted, none_before, in_order}
use Rattle.store.proofs.Inserts.{Strict, all_inserted, by-test, insert-after, insert-here, insert-first, none-before-head, in-order-tail, in-order-inserted, length_inserted, not-before-back, not-before-carries-over}
use Rattle.heap.specs.Sorting.{sorted}

module _ {X : Type 0} (before : X → X → Bool) where
  pub all-sorted : (P : X → Type 0) (xs : List X) → AllByRecursion P xs → AllByRecursion P (sorted before xs)
  unfolding sorted
  all-sorted P [] h = tt
  all-sorted P (x ∷ xs) h = all_inserted before P (sorted before xs) x (all-sorted P xs h.1) h.0

  pub length-sorted : (xs : List X) → length (sorted before xs) ≡ length xs
  unfolding sorted
  length-sorted [] = refl
  length-sorted (x ∷ xs) = length_inserted before (sorted before xs) x ∙ ap suc (length-sorted xs)

  none-before-from-all : (c : X) (xs : List X) → AllByRecursion (λ x. before x c ≡ false) xs → none_before before c xs ≡ true
  unfolding none_before
  none-before-from-all c [] h = refl
  none-before-from-all c (x ∷ xs) h = and_from _ _ (not_from_false _ h.0) (none-before-from-all c xs h.1)

  -- what none comes before stands in front
  pub sorted-first : (c : X) (xs : List X) → AllByRecursion (λ x. before x c ≡ false) xs → sorted before (c ∷ xs) ≡ c ∷ sorted before xs
  unfolding sorted
  sorted-first c xs h =
      insert-first before (sorted before xs) c (none-before-from-all c (sorted before xs) (all-sorted (λ x. before x c ≡ false) xs h))

module _ {X : Type 0} (before : X → X → Bool) (strict : Strict before) where
  pub in-order-sorted : (xs : List X) → in_order before (sorted before xs) ≡ true
  unfolding sorted in_order
  in-order-sorted [] = refl
  in-order-sorted (x ∷ xs) = in-order-inserted before strict (sorted before xs) x (in-order-sorted xs)

  -- two newcomers before a list, in either turn
  swap-here : (x : X) (xs : List X) (a b : X) → before x a ≡ false → before x b ≡ false → inserted before (a ∷ x ∷ xs) b ≡ inserted before (b ∷ x ∷ xs) a
  swap-here x xs a b p q =
      by-test (before a b)
      (λ t. insert-after before a (x ∷ xs) b t ∙ ap (λ ys. a ∷ ys) (insert-here before x xs b q) ∙ sym (insert-here before b (x ∷ xs) a (not-before-back before strict a b t)))
      (λ f. by-test (before b a)
      (λ u. insert-here before a (x ∷ xs) b f ∙ sym (insert-after before b (x ∷ xs) a u ∙ ap (λ ys. b ∷ ys) (insert-here before x xs a p)))
      (λ u. ap (λ c. inserted before (c ∷ x ∷ xs) b) (strict.total a b f u) ∙ ap (λ c. inserted before (b ∷ x ∷ xs) c) (sym (strict.total a b f u))))

  -- one newcomer after x and the other before it
  swap-around : (x : X) (xs : List X) (a b : X) → before x a ≡ true → before x b ≡ false → inserted before (inserted before (x ∷ xs) a) b ≡ inserted before (inserted before (x ∷ xs) b) a
  swap-around x xs a b p q =
      let ba : before b a ≡ true =
      by-test (before b a) (λ t. t) (λ f. absurd (both_ways _ (not-before-carries-over before strict x b a q f) p)) in
      ap (λ ys. inserted before ys b) (insert-after before x xs a p) ∙ insert-here before x (inserted before xs a) b q
      ∙ sym (ap (λ ys. inserted before ys a) (insert-here before x xs b q) ∙ insert-after before b (x ∷ xs) a ba ∙ ap (λ ys. b ∷ ys) (insert-after before x xs a p))

  pub insert-swap : (xs : List X) (a b : X) → inserted before (inserted before xs a) b ≡ inserted before (inserted before xs b) a
  unfolding inserted
  insert-swap [] a b =
      by-test (before a b)
      (λ t. insert-after before a [] b t ∙ sym (insert-here before b [] a (not-before-back before strict a b t)))
      (λ f. by-test (before b a)
      (λ u. insert-here before a [] b f ∙ sym (insert-after before b [] a u))
      (λ u. ap (λ c. inserted before (c ∷ []) b) (strict.total a b f u) ∙ ap (λ c. inserted before (b ∷ []) c) (sym (strict.total a b f u))))
  insert-swap (x ∷ xs) a b =
      by-test (before x a)
      (λ p. by-test (before x b)
      (λ q. ap (λ ys. inserted before ys b) (insert-after before x xs a p) ∙ insert-after before x (inserted before xs a) b q ∙ ap (λ ys. x ∷ ys) (insert-swap xs a b)
      ∙ sym (ap (λ ys. inserted before ys a) (insert-after before x xs b q) ∙ insert-after before x (inserted before xs b) a p))
      (λ q. swap-around x xs a b p q))
      (λ p. by-test (before x b)
      (λ q. sym (swap-around x xs b a q p))
      (λ q. ap (λ ys. inserted before ys b) (insert-here before x xs a p) ∙ swap-here x xs a b p q ∙ sym (ap (λ ys. inserted before ys a) (insert-here before x xs b q))))

  pub sorted-push : (xs : List X) (c : X) → sorted before (xs ++ c ∷ []) ≡ inserted before (sorted before xs) c
  unfolding sorted
  sorted-push [] c = refl
  sorted-push (x ∷ xs) c = ap (λ ys. inserted before ys x) (sorted-push xs c) ∙ insert-swap (sorted before xs) c x

  -- what an element is replaced by, and the element, change sides
  pub sorted-set : (xs : List X) (i : ℕ) (c d : X) → i < length xs → inserted before (sorted before (slice_set xs i c)) (slice_index_or xs i d) ≡ inserted before (sorted before xs) c
  unfolding sorted
  sorted-set [] i c d h = absurd (let b : ⊥ = omega arith in b)
  sorted-set (x ∷ xs) zero c d h = insert-swap (sorted before xs) c x
  sorted-set (x ∷ xs) (suc i) c d h =
      insert-swap (sorted before (slice_set xs i c)) x (slice_index_or xs i d) ∙ ap (λ ys. inserted before ys x) (sorted-set xs i c d (omega arith)) ∙ insert-swap (sorted before xs) c x

  -- equal insertions came from equal lists
  insert-cancels : (xs ys : List X) (c : X) → inserted before xs c ≡ inserted before ys c → xs ≡ ys
  unfolding inserted
  insert-cancels [] [] c e = refl
  insert-cancels [] (y ∷ ys) c e =
      let l : 1 ≡ suc (suc (length ys)) = ap length e ∙ length_inserted before (y ∷ ys) c in absurd (let b : ⊥ = omega arith in b)
  insert-cancels (x ∷ xs) [] c e =
      let l : suc (suc (length xs)) ≡ 1 = sym (length_inserted before (x ∷ xs) c) ∙ ap length e in absurd (let b : ⊥ = omega arith in b)
  insert-cancels (x ∷ xs) (y ∷ ys) c e =
      by-test (before x c)
      (λ p. by-test (before y c)
      (λ q. let f : x ∷ inserted before xs c ≡ y ∷ inserted before ys c = sym (insert-after before x xs c p) ∙ e ∙ insert-after before y ys c q in
      let heads : x ≡ y = cc in
      let tails : inserted before xs c ≡ inserted before ys c = cc in
      let rests : xs ≡ ys = insert-cancels xs ys c tails in cc)
      (λ q. let f : x ∷ inserted before xs c ≡ c ∷ y ∷ ys = sym (insert-after before x xs c p) ∙ e ∙ insert-here before y ys c q in
      let same : x ≡ c = cc in
      absurd (both_ways _ (strict.irreflexive c) (ap (λ z. before z c) (sym same) ∙ p))))
      (λ p. by-test (before y c)
      (λ q. let f : c ∷ x ∷ xs ≡ y ∷ inserted before ys c = sym (insert-here before x xs c p) ∙ e ∙ insert-after before y ys c q in
      let same : y ≡ c = cc in
      absurd (both_ways _ (strict.irreflexive c) (ap (λ z. before z c) (sym same) ∙ q)))
      (λ q. let f : c ∷ x ∷ xs ≡ c ∷ y ∷ ys = sym (insert-here before x xs c p) ∙ e ∙ insert-here before y ys c q in cc))

  -- what comes before none stands last
  pub insert-last : (xs : List X) (c : X) → in_order before xs ≡ true → AllByRecursion (λ x. before c x ≡ false) xs → inserted before xs c ≡ xs ++ c ∷ []
  unfolding inserted
  insert-last [] c h k = refl
  insert-last (x ∷ xs) c h k =
      let later = insert-last xs c (in-order-tail before x xs h) k.1 in
      by-test (before x c)
      (λ t. insert-after before x xs c t ∙ ap (λ ys. x ∷ ys) later)
      (λ f. let same : x ≡ c = strict.total x c f k.0 in
      insert-here before x xs c f ∙ ap (λ z. z ∷ x ∷ xs) (sym same)
      ∙ ap (λ ys. x ∷ ys) (sym (insert-first before xs x (none-before-head before x xs h)) ∙ ap (inserted before xs) same ∙ later))

  set_keeps : (xs : List X) (i j : ℕ) (d : X) → j < length xs → slice_index_or (slice_set xs i (slice_index_or xs j d)) j d ≡ slice_index_or xs j d
  set_keeps xs i j d h =
      elim (cases_eq j i) [
        | inl e ↦ ap (λ k. get_or (slice_set xs k (slice_index_or xs j d)) j d) (sym e) ∙ get_or-set_same xs j (slice_index_or xs j d) d h
        | inr n ↦ get_or-set_other xs i j (slice_index_or xs j d) d n
      ]

  -- two elements change places
  pub sorted-swap :
      (xs : List X) (i j : ℕ) (d : X) → i < length xs → j < length xs
      → sorted before (slice_set (slice_set xs i (slice_index_or xs j d)) j (slice_index_or xs i d)) ≡ sorted before xs
  sorted-swap xs i j d h k =
      let ys : List X = set xs i (slice_index_or xs j d) in
      let long : j < length ys = rw length-set k in
      let back = sorted-set ys j (slice_index_or xs i d) d long in
      insert-cancels (sorted before (slice_set ys j (slice_index_or xs i d))) (sorted before xs) (slice_index_or xs j d)
      (ap (inserted before (sorted before (slice_set ys j (slice_index_or xs i d)))) (sym (set_keeps xs i j d k)) ∙ back ∙ sorted-set xs i (slice_index_or xs j d) d h)
