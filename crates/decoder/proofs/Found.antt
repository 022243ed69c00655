-- A search for a free row that finds none. Assumes nothing.
use Rattle.std.proofs.Common.{◌≡◌, ℕ, zero, suc, ◌+◌, ◌<◌, ◌≤◌, Bool, true, false, cond, not, List, [], ◌∷◌, ◌++◌, Some, None, Option, refl, ap, ◌∙◌, subst, inl, inr, arith}
use Rattle.std.proofs.lemmas.Bool.{cases_lt}
use Rattle.std.specs.List.{find, range_with_len}

abbrev IsNothing : {X : Type 0} → Option X → Type 0
IsNothing None = Unit {0}
IsNothing (Some x) = ⊥

module _ (held : ℕ → Bool) where
  abbrev found : List ℕ → Option ℕ
  found = find (λ r. not (held r))

  -- what is not found among all is not found among the first of them, nor among the rest
  not-found : (x : ℕ) (xs : List ℕ) → None ≡ found (x ∷ xs) → (held x ≡ true) × (None ≡ found xs)
  not-found x xs none = go (held x) refl
    where
      go : (b : Bool) → held x ≡ b → (held x ≡ true) × (None ≡ found xs)
      go true e = (e, none ∙ ap (λ b. cond (not b) (Some x) (found xs)) e)
      go false e = absurd (subst IsNothing (none ∙ ap (λ b. cond (not b) (Some x) (found xs)) e) tt)

  not-behind : (xs ys : List ℕ) → None ≡ found (xs ++ ys) → None ≡ found ys
  not-behind [] ys none = none
  not-behind (x ∷ xs) ys none = not-behind xs ys (not-found x (xs ++ ys) none).1

  all-held : (a n : ℕ) → None ≡ found (range_with_len a n) → (r : ℕ) → a ≤ r → r < a + n → held r ≡ true
  all-held a zero none r low high = absurd (omega arith)
  all-held a (suc n) none r low high =
      let (first, rest) = not-found a (range_with_len (a + 1) n) none in
      elim (cases_lt a r) [
        | inl h ↦ all-held (a + 1) n rest r (omega arith) (omega arith)
        | inr h ↦ let same : a ≡ r = omega arith in subst (λ k. held k ≡ true) same first
      ]

  pub all-held-behind : (xs : List ℕ) (n : ℕ) → None ≡ found (xs ++ range_with_len 0 n) → (r : ℕ) → r < n → held r ≡ true
  all-held-behind xs n none r h = all-held 0 n (not-behind xs (range_with_len 0 n) none) r (omega arith) (omega arith)
