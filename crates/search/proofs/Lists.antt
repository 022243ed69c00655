-- Laws of counting, of standing in a list and of what holds of each. Assumes nothing.
use Rattle.std.proofs.Common.{◌≡◌, ◌+◌, ◌≤◌, Bool, true, false, cond, not, List, [], ◌∷◌, ◌++◌, map, sym, refl, ap, subst, inl, inr, arith}
use Rattle.search.specs.Lists.{count, Among, Each}

module _ {A : Type 0} where
  pub count-append : (p : A → Bool) (xs ys : List A) → count p (xs ++ ys) ≡ count p xs + count p ys
  count-append p [] ys = omega arith
  count-append p (x ∷ xs) ys = let h = count-append p xs ys in omega arith

  pub count-among : (p : A → Bool) (x : A) (xs : List A) → Among x xs → p x ≡ true → 1 ≤ count p xs
  count-among p x [] m h = absurd m
  count-among p x (y ∷ ys) (inl e) h = let k : p y ≡ true = subst (λ z. p z ≡ true) e h in rw k (omega arith)
  count-among p x (y ∷ ys) (inr m) h = let k = count-among p x ys m h in omega arith

  pub among-count : (p : A → Bool) (xs : List A) → 1 ≤ count p xs → (x : A) × Among x xs × (p x ≡ true)
  among-count p [] h = absurd (omega arith)
  among-count p (y ∷ ys) h = go (p y) refl (among-count p ys)
    where
      Found : Type 0
      Found = (x : A) × Among x (y ∷ ys) × (p x ≡ true)

      go : (t : Bool) → p y ≡ t → (1 ≤ count p ys → (x : A) × Among x ys × (p x ≡ true)) → Found
      go true e ih = (y, inl refl, e)
      go false e ih = let k : 1 ≤ cond false 1 0 + count p ys = subst (λ t. 1 ≤ cond t 1 0 + count p ys) e h in let (x, m, q) = ih (omega arith) in (x, inr m, q)

  pub none-among : (p : A → Bool) (xs : List A) → count (λ x. not (p x)) xs ≡ 0 → (x : A) → Among x xs → p x ≡ true
  none-among p xs none x m = go (p x) refl
    where
      go : (t : Bool) → p x ≡ t → p x ≡ true
      go true e = e
      go false e = let k : not (p x) ≡ true = ap not e in let h = count-among (λ y. not (p y)) x xs m k in absurd (omega arith)

  pub each_at : (P : A → Type 0) (xs : List A) → Each P xs → (x : A) → Among x xs → P x
  each_at P [] e x m = absurd m
  each_at P (y ∷ ys) e x (inl h) = subst P (sym h) e.0
  each_at P (y ∷ ys) e x (inr m) = each_at P ys e.1 x m

  pub each_from : (P : A → Type 0) (xs : List A) → ((x : A) → Among x xs → P x) → Each P xs
  each_from P [] f = tt
  each_from P (y ∷ ys) f = (f y (inl refl), each_from P ys (λ x m. f x (inr m)))

  pub each_map : (P Q : A → Type 0) (xs : List A) → ((x : A) → P x → Q x) → Each P xs → Each Q xs
  each_map P Q [] f e = tt
  each_map P Q (y ∷ ys) f e = (f y e.0, each_map P Q ys f e.1)

  pub count_none : (p : A → Bool) (xs : List A) → ((x : A) → Among x xs → p x ≡ false) → count p xs ≡ 0
  count_none p [] f = refl
  count_none p (y ∷ ys) f = let h = count_none p ys (λ x m. f x (inr m)) in rw (f y (inl refl)) (omega arith)

module _ {A B : Type 0} where
  pub count_map : (f : A → B) (p : B → Bool) (xs : List A) → count p (map f xs) ≡ count (λ x. p (f x)) xs
  count_map f p [] = refl
  count_map f p (x ∷ xs) = ap (λ n. cond (p (f x)) 1 0 + n) (count_map f p xs)
