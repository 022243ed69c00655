-- Paths in rows: their bits, their cost and their children. Assumes nothing.
use Rattle.std.proofs.Common.{◌≡◌, ℕ, zero, suc, ◌+◌, ◌%◌, ◌<◌, Bool, true, false, cond, ◌&&◌, eqb, ltb, ◌⊎◌, List, [], ◌∷◌, ◌++◌, length, get_or, ℤ, sym, refl, ap, ◌∙◌, ap₂, inl, inr, arith}
use Rattle.std.proofs.lemmas.List.{get_or_append_left, get_or_push, length_push}
use Rattle.std.proofs.lemmas.Bool.{eq-eqb, ne_eqb, lt-ltb, cases_eq}
use Rattle.base.specs.Counts.{sum_below, xor_below}
use Rattle.base.proofs.Transform.{xor-below-same}
use Rattle.bits.specs.Row.{set_bit}
use Rattle.cost.specs.Values.{contradicts}
use Rattle.cost.specs.Path.{decision, cost}
use Rattle.cost.proofs.Path.{cost-looks-back, looks-back}
use Rattle.search.specs.Paths.{Kind, is_information, parity_bit, information_from, child}
use Rattle.model.specs.Blocks.{bits_of, path_cost}
use Rattle.model.specs.Reading.{first_bits}

pub first-length : (u : ℕ → Bool) (n : ℕ) → length (first_bits u n) ≡ n
unfolding first_bits
first-length u zero = refl
first-length u (suc n) = length_push (first_bits u n) (u n) ∙ (let h = first-length u n in omega arith)

pub first-at : (u : ℕ → Bool) (n k : ℕ) → k < n → get_or (first_bits u n) k false ≡ u k
unfolding first_bits
first-at u zero k h = absurd (omega arith)
first-at u (suc n) k h = go (cases_eq k n) (first-at u n k)
  where
    long : length (first_bits u n) ≡ n
    long = first-length u n

    go : (k ≡ n) ⊎ (k ≡ n → ⊥) → (k < n → get_or (first_bits u n) k false ≡ u k) → get_or (first_bits u n ++ (u n ∷ [])) k false ≡ u k
    go (inl e) ih = get_or_push (first_bits u n) (u n) false k (long ∙ sym e) ∙ ap u (sym e)
    go (inr e) ih =
        let lt : k < n = omega arith in
        let size : k < length (first_bits u n) = omega (arith, long) in
        get_or_append_left (first_bits u n) (u n ∷ []) false k size ∙ ih lt

pub first-same : (u v : ℕ → Bool) (n : ℕ) → ((k : ℕ) → k < n → u k ≡ v k) → first_bits u n ≡ first_bits v n
unfolding first_bits
first-same u v zero h = refl
first-same u v (suc n) h = ap₂ (λ xs x. xs ++ (x ∷ [])) (first-same u v n (λ k l. h k (omega arith))) (h n (omega arith))

-- the row of a child

pub set_before : (u : ℕ → Bool) (i : ℕ) (b : Bool) (k : ℕ) → k < i → set_bit u i b k ≡ u k
set_before u i b k h = ap (λ t. cond (t && ltb i 1024) b (u k)) (ne_eqb k i (λ e. omega arith))

pub set_here : (u : ℕ → Bool) (i : ℕ) (b : Bool) → i < 1024 → set_bit u i b i ≡ b
set_here u i b h = ap₂ (λ s t. cond (s && t) b (u i)) (eq-eqb i i refl) (lt-ltb i 1024 h)

pub first-child : (u : ℕ → Bool) (i : ℕ) (b : Bool) → i < 1024 → first_bits (set_bit u i b) (suc i) ≡ child (first_bits u i) b
unfolding first_bits
first-child u i b h = ap₂ (λ xs x. xs ++ (x ∷ [])) (first-same (set_bit u i b) u i (set_before u i b)) (set_here u i b h)

-- cost

pub cost-first : (n : ℕ) (llr : ℕ → ℤ) (u : ℕ → Bool) (i : ℕ) → path_cost n llr (first_bits u i) ≡ cost n llr u i
cost-first n llr u i =
    ap (cost n llr (bits_of (first_bits u i))) (first-length u i)
    ∙ cost-looks-back n llr (bits_of (first_bits u i)) u i (first-at u i)

cost-suc : (n : ℕ) (llr : ℕ → ℤ) (v : ℕ → Bool) (i : ℕ) → cost n llr v (suc i) ≡ cost n llr v i + contradicts (decision n llr v i) (v i)
unfolding sum_below
cost-suc n llr v i = refl

pub cost-child : (n : ℕ) (llr : ℕ → ℤ) (u : ℕ → Bool) (i : ℕ) (b : Bool) → path_cost n llr (child (first_bits u i) b) ≡ cost n llr u i + contradicts (decision n llr u i) b
cost-child n llr u i b =
    let p = first_bits u i in
    let v = bits_of (child p b) in
    let long : length p ≡ i = first-length u i in
    let size : length (child p b) ≡ suc i = length_push p b ∙ (omega arith) in
    let same : (k : ℕ) → k < i → v k ≡ u k = λ k h. get_or_append_left p (b ∷ []) false k (omega arith) ∙ first-at u i k h in
    let last : v i ≡ b = get_or_push p b false i long in
    ap (cost n llr v) size ∙ cost-suc n llr v i
    ∙ ap₂ (λ x y. x + y) (cost-looks-back n llr v u i same) (ap₂ contradicts (looks-back n llr v u i same) last)

-- information and parity

pub parity-first : (kinds : ℕ → Kind) (u : ℕ → Bool) (i : ℕ) → parity_bit kinds (first_bits u i) i ≡ xor_below (λ j. is_information (kinds j) && (eqb (j % 5) (i % 5) && u j)) i
parity-first kinds u i = xor-below-same _ _ i (λ j h. ap (λ b. is_information (kinds j) && (eqb (j % 5) (i % 5) && b)) (first-at u i j h))

abbrev kept : Bool → Bool → List Bool
kept t u = cond t (u ∷ []) []

pub information-push : (kinds : ℕ → Kind) (i : ℕ) (xs : List Bool) (u : Bool) → information_from kinds i (xs ++ (u ∷ [])) ≡ information_from kinds i xs ++ cond (is_information (kinds (i + length xs))) (u ∷ []) []
information-push kinds i [] u = ap (λ k. kept (is_information (kinds k)) u) (omega arith)
information-push kinds i (x ∷ xs) u =
    let later : information_from kinds (suc i) (xs ++ (u ∷ [])) ≡ information_from kinds (suc i) xs ++ kept (is_information (kinds (i + suc (length xs)))) u =
    information-push kinds (suc i) xs u ∙ ap (λ k. information_from kinds (suc i) xs ++ kept (is_information (kinds k)) u) (omega arith) in
    go (is_information (kinds i)) later
  where
    rest : List Bool
    rest = kept (is_information (kinds (i + suc (length xs)))) u

    go : (t : Bool) → information_from kinds (suc i) (xs ++ (u ∷ [])) ≡ information_from kinds (suc i) xs ++ rest → cond t (x ∷ information_from kinds (suc i) (xs ++ (u ∷ []))) (information_from kinds (suc i) (xs ++ (u ∷ []))) ≡ cond t (x ∷ information_from kinds (suc i) xs) (information_from kinds (suc i) xs) ++ rest
    go true e = ap (λ ys. x ∷ ys) e
    go false e = e

pub information-first : (kinds : ℕ → Kind) (u : ℕ → Bool) (i : ℕ) → information_from kinds 0 (first_bits u (suc i)) ≡ information_from kinds 0 (first_bits u i) ++ cond (is_information (kinds i)) (u i ∷ []) []
unfolding first_bits
information-first kinds u i = information-push kinds 0 (first_bits u i) (u i) ∙ ap (λ k. information_from kinds 0 (first_bits u i) ++ kept (is_information (kinds k)) (u i)) (let e = first-length u i in omega arith)
