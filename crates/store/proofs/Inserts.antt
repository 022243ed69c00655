-- Insertion by a test, and what it keeps. Assumes of the test what each section names.
use Rattle.std.proofs.Common.{◌≡◌, ℕ, zero, suc, ◌<◌, Bool, true, false, cond, not, List, [], ◌∷◌, ◌++◌, map, length, take, drop, refl, sym, ap, ◌∙◌, arith}
use Rattle.std.specs.List.{AllByRecursion}
use Rattle.std.proofs.lemmas.List.{drop_all, drop_at, take_all, take_at}
use Rattle.std.proofs.lemmas.Bool.{and_parts, and_from, both_ways, not-true, not_from_false}
use Rattle.store.specs.Ordered.{inserted, none_before, in_order}

module _ {X : Type 0} (before : X → X → Bool) where
  -- the two ways of an insertion
  pub insert-after : (x : X) (xs : List X) (c : X) → before x c ≡ true → inserted before (x ∷ xs) c ≡ x ∷ inserted before xs c
  unfolding inserted
  insert-after x xs c h = rw h

  pub insert-here : (x : X) (xs : List X) (c : X) → before x c ≡ false → inserted before (x ∷ xs) c ≡ c ∷ x ∷ xs
  unfolding inserted
  insert-here x xs c h = rw h

  pub length_inserted : (xs : List X) (c : X) → length (inserted before xs c) ≡ suc (length xs)
  unfolding inserted
  length_inserted [] c = refl
  length_inserted (x ∷ xs) c =
      elim (before x c) as (λ b. length (cond b (x ∷ inserted before xs c) (c ∷ x ∷ xs)) ≡ suc (suc (length xs)))
      [ true ↦ ap suc (length_inserted xs c) | false ↦ refl ]

  -- an element that none comes before goes to the front
  pub insert-first : (xs : List X) (c : X) → none_before before c xs ≡ true → inserted before xs c ≡ c ∷ xs
  unfolding inserted none_before
  insert-first [] c h = refl
  insert-first (x ∷ xs) c h = insert-here x xs c (not-true _ (and_parts _ _ h).0)

  pub none-before-head : (x : X) (xs : List X) → in_order before (x ∷ xs) ≡ true → none_before before x xs ≡ true
  unfolding in_order
  none-before-head x xs h = (and_parts _ _ h).0

  pub in-order-tail : (x : X) (xs : List X) → in_order before (x ∷ xs) ≡ true → in_order before xs ≡ true
  unfolding in_order
  in-order-tail x xs h = (and_parts _ _ h).1

  pub in-order-drop : (n : ℕ) (xs : List X) → in_order before xs ≡ true → in_order before (drop n xs) ≡ true
  in-order-drop zero xs h = h
  in-order-drop (suc n) [] h = h
  in-order-drop (suc n) (x ∷ xs) h = in-order-drop n xs (in-order-tail x xs h)

  none-before-take : (n : ℕ) (c : X) (xs : List X) → none_before before c xs ≡ true → none_before before c (take n xs) ≡ true
  unfolding none_before
  none-before-take zero c xs h = refl
  none-before-take (suc n) c [] h = refl
  none-before-take (suc n) c (x ∷ xs) h =
      let p = and_parts (not (before x c)) (none_before before c xs) h in
      and_from _ _ p.0 (none-before-take n c xs p.1)

  pub in-order-take : (n : ℕ) (xs : List X) → in_order before xs ≡ true → in_order before (take n xs) ≡ true
  unfolding in_order
  in-order-take zero xs h = refl
  in-order-take (suc n) [] h = refl
  in-order-take (suc n) (x ∷ xs) h =
      let p = and_parts (none_before before x xs) (in_order before xs) h in
      and_from _ _ (none-before-take n x xs p.0) (in-order-take n xs p.1)

  pub in-order-front : (xs ys : List X) → in_order before (xs ++ ys) ≡ true → in_order before xs ≡ true
  in-order-front xs ys h = ap (in_order before) (sym (take_at xs ys (length xs) refl)) ∙ in-order-take (length xs) (xs ++ ys) h

  pub all_inserted : (P : X → Type 0) (xs : List X) (c : X) → AllByRecursion P xs → P c → AllByRecursion P (inserted before xs c)
  unfolding inserted
  all_inserted P [] c h k = (k, tt)
  all_inserted P (x ∷ xs) c h k =
      elim (before x c) as (λ b. AllByRecursion P (cond b (x ∷ inserted before xs c) (c ∷ x ∷ xs)))
      [ true ↦ (h.0, all_inserted P xs c h.1 k) | false ↦ (k, h) ]

  -- elements may be read as others that the test there takes alike
  pub inserted-map :
      {Y : Type 0} (before' : Y → Y → Bool) (f : X → Y) (xs : List X) (c : X) → AllByRecursion (λ x. before x c ≡ before' (f x) (f c)) xs
      → map f (inserted before xs c) ≡ inserted before' (map f xs) (f c)
  unfolding inserted
  inserted-map before' f [] c h = refl
  inserted-map before' f (x ∷ xs) c h =
      let later = inserted-map before' f xs c h.1 in
      ap (λ b. map f (cond b (x ∷ inserted before xs c) (c ∷ x ∷ xs))) h.0
      ∙ elim (before' (f x) (f c)) as (λ b. map f (cond b (x ∷ inserted before xs c) (c ∷ x ∷ xs)) ≡ cond b (f x ∷ inserted before' (map f xs) (f c)) (f c ∷ f x ∷ map f xs))
      [ true ↦ ap (λ ys. f x ∷ ys) later | false ↦ refl ]

-- with room for one more, nothing is shed
module _ {X : Type 0} (before : X → X → Bool) (xs : List X) (c : X) (capacity : ℕ) (room : length xs < capacity) where
  pub room-stays : take capacity (inserted before xs c) ≡ inserted before xs c
  room-stays = take_all capacity _ (omega (arith, length_inserted before xs c))

  pub room-sheds : drop capacity (inserted before xs c) ≡ []
  room-sheds = drop_all capacity _ (omega (arith, length_inserted before xs c))

-- of a full list and one more, the last is shed
module _ {X : Type 0} (all ys : List X) (c : X) (capacity : ℕ) (long : length ys ≡ capacity) (ends : all ≡ ys ++ c ∷ []) where
  pub full-stays : take capacity all ≡ ys
  full-stays = ap (take capacity) ends ∙ take_at ys (c ∷ []) capacity long

  pub full-sheds : drop capacity all ≡ c ∷ []
  full-sheds = ap (drop capacity) ends ∙ drop_at ys (c ∷ []) capacity long

-- the test is a strict order in which what is unordered is equal
pub record Strict {X : Type 0} (before : X → X → Bool) : Type 0 where
  pub irreflexive : (a : X) → before a a ≡ false
  pub transitive : (a b c : X) → before a b ≡ true → before b c ≡ true → before a c ≡ true
  pub total : (a b : X) → before a b ≡ false → before b a ≡ false → a ≡ b

pub by-test : {P : Type 0} (b : Bool) → (b ≡ true → P) → (b ≡ false → P) → P
by-test true t f = t refl
by-test false t f = f refl

module _ {X : Type 0} (before : X → X → Bool) (strict : Strict before) where
  pub not-before-back : (a b : X) → before a b ≡ true → before b a ≡ false
  not-before-back a b h =
      by-test (before b a) (λ t. absurd (both_ways _ (strict.irreflexive a) (strict.transitive a b a h t))) (λ f. f)

  pub not-before-carries-over : (a b c : X) → before a b ≡ false → before b c ≡ false → before a c ≡ false
  not-before-carries-over a b c p q =
      by-test (before a c)
      (λ t. by-test (before c b)
      (λ u. absurd (both_ways _ p (strict.transitive a c b t u)))
      (λ u. absurd (both_ways _ p (ap (before a) (strict.total b c q u) ∙ t))))
      (λ f. f)

  none-before-inserted : (a : X) (xs : List X) (c : X) → none_before before a xs ≡ true → before c a ≡ false → none_before before a (inserted before xs c) ≡ true
  unfolding none_before inserted
  none-before-inserted a [] c h n = and_from _ _ (not_from_false _ n) refl
  none-before-inserted a (x ∷ xs) c h n =
      let p = and_parts (not (before x a)) (none_before before a xs) h in
      elim (before x c) as (λ b. none_before before a (cond b (x ∷ inserted before xs c) (c ∷ x ∷ xs)) ≡ true) [
        | true ↦ and_from _ _ p.0 (none-before-inserted a xs c p.1 n)
        | false ↦ and_from _ _ (not_from_false _ n) h
      ]

  pub none-before-earlier : (a b : X) (xs : List X) → before b a ≡ false → none_before before b xs ≡ true → none_before before a xs ≡ true
  unfolding none_before
  none-before-earlier a b [] n h = refl
  none-before-earlier a b (x ∷ xs) n h =
      let p = and_parts (not (before x b)) (none_before before b xs) h in
      and_from _ _ (not_from_false _ (not-before-carries-over x b a (not-true _ p.0) n)) (none-before-earlier a b xs n p.1)

  pub in-order-inserted : (xs : List X) (c : X) → in_order before xs ≡ true → in_order before (inserted before xs c) ≡ true
  unfolding none_before in_order inserted
  in-order-inserted [] c h = refl
  in-order-inserted (x ∷ xs) c h =
      let p = and_parts (none_before before x xs) (in_order before xs) h in
      by-test (before x c)
      (λ t. rw t (and_from _ _ (none-before-inserted x xs c p.0 (not-before-back x c t)) (in-order-inserted xs c p.1)))
      (λ f. rw f (and_from _ _ (and_from _ _ (not_from_false _ f) (none-before-earlier c x xs f p.0)) h))
