-- The laws of the first number that passes a test. Assumes nothing.
use Rattle.std.proofs.Common.{◌≡◌, ℕ, zero, suc, ◌+◌, ◌-◌, ◌<◌, Bool, true, false, cond, List, [], ◌∷◌, ◌++◌, length, get_or, Some, None, Option, sym, refl, ap, ◌∙◌, inl, inr, arith}
use Rattle.std.proofs.lemmas.Bool.{cases_lt, lt-ltb, le-ltb}
use Rattle.std.proofs.lemmas.Iterator.Adapters.{option_map_id}
use Rattle.std.proofs.lemmas.List.Folds.{find-append}
use Rattle.std.proofs.lemmas.List.Sums.{fails_before_first, passes_at_first}
use Rattle.std.specs.List.{find, position, position_or_len, range_with_len}
use Rattle.std.specs.Option.{option_map, option_or}
use Rattle.code.specs.First.{first_below, earlier}

-- where none has p none is found
pub first_none : (p : ℕ → Bool) (n : ℕ) → ((k : ℕ) → k < n → p k ≡ false) → first_below p n ≡ None
unfolding first_below
first_none p zero none = refl
first_none p (suc n) none =
    let before = first_none p n (λ k l. none k (omega arith)) in
    let here = none n (omega arith) in
    rw (first_below, before, here)

first-after : (p : ℕ → Bool) (i d : ℕ) → ((k : ℕ) → k < i → p k ≡ false) → p i ≡ true → first_below p (suc i + d) ≡ Some i
unfolding first_below
first-after p i zero none here =
    let e : suc i + 0 ≡ suc i = omega arith in
    let before = first_none p i none in
    ap (first_below p) e ∙ rw (first_below, before, here)
first-after p i (suc d) none here =
    let e : suc i + suc d ≡ suc (suc i + d) = omega arith in
    let before = first-after p i d none here in
    ap (first_below p) e ∙ rw (first_below, before)

-- the first that has p is found
first_found : (p : ℕ → Bool) (i n : ℕ) → ((k : ℕ) → k < i → p k ≡ false) → p i ≡ true → i < n → first_below p n ≡ Some i
first_found p i n none here l =
    let e : n ≡ suc i + (n - suc i) = omega arith in
    ap (first_below p) e ∙ first-after p i (n - suc i) none here

-- the first index of a list whose element passes
pub first_position : {X : Type 0} (p : X → Bool) (xs : List X) (d : X) → position p xs ≡ first_below (λ k. p (get_or xs k d)) (length xs)
first_position p xs d =
    let i = position_or_len p xs in
    elim (cases_lt i (length xs)) [
      | inl l ↦
          ap (λ (b : Bool). cond b (Some i) None) (lt-ltb i (length xs) l)
          ∙ sym (first_found (λ k. p (get_or xs k d)) i (length xs) (λ k m. fails_before_first p xs k d m) (passes_at_first p xs d l) l)
      | inr g ↦
          ap (λ (b : Bool). cond b (Some i) None) (le-ltb i (length xs) g)
          ∙ sym (first_none (λ k. p (get_or xs k d)) (length xs) (λ k l. fails_before_first p xs k d (omega arith)))
    ]

-- a range ends in its last number
pub range_more : (a n last : ℕ) → a + n ≡ last → range_with_len a (suc n) ≡ range_with_len a n ++ (last ∷ [])
range_more a zero last e =
    let same : a ≡ last = omega arith in
    ap (λ (k : ℕ). k ∷ []) same
range_more a (suc n) last e =
    ap (λ (ks : List ℕ). a ∷ ks) (range_more (a + 1) n last (omega arith))

one-more : (o : Option ℕ) (b : Bool) (i : ℕ) → option_or o (find (λ _. b) (i ∷ [])) ≡ earlier o (cond b (Some i) None)
one-more (Some j) b i = refl
one-more None true i = refl
one-more None false i = refl

range-found : (p : ℕ → Bool) (n : ℕ) → find p (range_with_len 0 n) ≡ first_below p n
unfolding first_below
range-found p zero = refl
range-found p (suc n) =
    ap (find p) (range_more 0 n n (omega arith)) ∙ find-append p (range_with_len 0 n) (n ∷ [])
    ∙ one-more (find p (range_with_len 0 n)) (p n) n
    ∙ ap (λ (o : Option ℕ). earlier o (cond (p n) (Some n) None)) (range-found p n)

-- the first number of a range that passes
pub first_in_range : (p : ℕ → Bool) (n : ℕ) (found : Option ℕ) → option_map (λ i. i) found ≡ find p (range_with_len 0 n) → found ≡ first_below p n
first_in_range p n found is = sym (option_map_id found) ∙ is ∙ range-found p n

none-parts : (o : Option ℕ) (b : Bool) (n : ℕ) → earlier o (cond b (Some n) None) ≡ None → (o ≡ None) × (b ≡ false)
none-parts (Some i) b n h = absurd (let z : ◌≡◌ {A = ℕ} 0 1 = cc in omega arith)
none-parts None true n h = absurd (let z : ◌≡◌ {A = ℕ} 0 1 = cc in omega arith)
none-parts None false n h = (refl, refl)

-- where none is found none has p
pub first_absent : (p : ℕ → Bool) (n : ℕ) → first_below p n ≡ None → (k : ℕ) → k < n → p k ≡ false
unfolding first_below
first_absent p zero none k l = absurd (omega arith)
first_absent p (suc n) none k l =
    let parts = none-parts (first_below p n) (p n) n none in
    elim (cases_lt k n) [
      | inl m ↦ first_absent p n parts.0 k m
      | inr g ↦ (let e : k ≡ n = omega arith in ap p e ∙ parts.1)
    ]
