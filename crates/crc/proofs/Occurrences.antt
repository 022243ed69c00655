-- How often a number occurs in a list, where it stands, and what striking leaves of that. Assumes nothing.
use Rattle.std.proofs.Common.{◌≡◌, ℕ, zero, suc, ◌+◌, ◌-◌, ◌<◌, ◌≤◌, Bool, true, false, cond, ◌&&◌, eqb, ltb, List, [], ◌∷◌, map, length, get_or, sym, refl, ap, ◌∙◌, arith}
use Rattle.std.proofs.lemmas.List.{ext_get_or, length-map, get_or-map}
use Rattle.std.proofs.lemmas.Bool.{le-leb, lt-leb}
use Rattle.std.proofs.lemmas.Bool.Decides.{nat_tests}
use Rattle.crc.specs.Spread.{struck, place_of}

abbrev pub counted : Bool → ℕ
counted b = cond b 1 0

unfoldable pub occurrences : ℕ → List ℕ → ℕ
occurrences k [] = 0
occurrences k (x ∷ xs) = counted (eqb k x) + occurrences k xs

-- every item is below n
unfoldable pub inside : ℕ → List ℕ → Bool
inside n [] = true
inside n (x ∷ xs) = ltb x n && inside n xs

pub struck-in : (s x : ℕ) (xs : List ℕ) → s ≤ x → struck s (x ∷ xs) ≡ (x - s) ∷ struck s xs
unfolding struck
struck-in s x xs h = rw (le-leb s x h) refl

pub struck-out : (s x : ℕ) (xs : List ℕ) → x < s → struck s (x ∷ xs) ≡ struck s xs
unfolding struck
struck-out s x xs h = rw (lt-leb s x h) refl

pub struck-nil : (s : ℕ) → struck s [] ≡ []
unfolding struck
struck-nil s = refl

cond-zero : (b : Bool) → counted b ≡ 0 → b ≡ false
cond-zero true h = absurd (omega arith)
cond-zero false h = refl

eqb-shift : (k s x : ℕ) → s ≤ x → eqb k (x - s) ≡ eqb (k + s) x
eqb-shift k s x h = grind (arith, nat_tests)

pub occurrences-struck : (k s : ℕ) (xs : List ℕ) → occurrences k (struck s xs) ≡ occurrences (k + s) xs
unfolding occurrences
occurrences-struck k s [] = ap (occurrences k) (struck-nil s)
occurrences-struck k s (x ∷ xs) = grind (arith, nat_tests, struck-in s x xs, struck-out s x xs, occurrences-struck k s xs)

length-struck-zero : (xs : List ℕ) → length (struck 0 xs) ≡ length xs
length-struck-zero [] = ap length (struck-nil 0)
length-struck-zero (x ∷ xs) = ap length (struck-in 0 x xs (omega arith)) ∙ ap suc (length-struck-zero xs)

length-struck-more : (s : ℕ) (xs : List ℕ) → length (struck s xs) ≡ length (struck (suc s) xs) + occurrences s xs
unfolding occurrences
length-struck-more s [] = ap length (struck-nil s) ∙ sym (ap (λ l. length l + 0) (struck-nil (suc s)))
length-struck-more s (x ∷ xs) = grind (arith, nat_tests, struck-in s x xs, struck-out s x xs, struck-in (suc s) x xs, struck-out (suc s) x xs, length-struck-more s xs)

pub length-struck : (s : ℕ) (xs : List ℕ) → ((k : ℕ) → k < s → occurrences k xs ≡ 1) → length (struck s xs) + s ≡ length xs
length-struck zero xs h = omega (arith, length-struck-zero xs)
length-struck (suc s) xs h =
    omega (arith, length-struck s xs (λ k l. h k (omega arith)), length-struck-more s xs, h s (omega arith))

pub inside-struck : (n s : ℕ) (xs : List ℕ) → inside n xs ≡ true → inside (n - s) (struck s xs) ≡ true
unfolding inside
inside-struck n s [] h = ap (inside (n - s)) (struck-nil s)
inside-struck n s (x ∷ xs) h = grind (arith, nat_tests, struck-in s x xs, struck-out s x xs, inside-struck n s xs)

pub inside-at : (n : ℕ) (xs : List ℕ) (m : ℕ) → inside n xs ≡ true → m < length xs → get_or xs m 0 < n
unfolding inside
inside-at n [] m h l = omega arith
inside-at n (x ∷ xs) zero h l = grind (arith, nat_tests)
inside-at n (x ∷ xs) (suc m) h l = grind (arith, nat_tests, inside-at n xs m)

occurs-at : (xs : List ℕ) (m : ℕ) → m < length xs → 1 ≤ occurrences (get_or xs m 0) xs
unfolding occurrences
occurs-at [] m h = omega arith
occurs-at (x ∷ xs) zero h = grind (arith, nat_tests)
occurs-at (x ∷ xs) (suc m) h = grind (arith, nat_tests, occurs-at xs m)

pub place_at : (xs : List ℕ) (m : ℕ) → m < length xs → occurrences (get_or xs m 0) xs ≡ 1 → place_of (get_or xs m 0) xs ≡ m
unfolding occurrences place_of
place_at [] m h o = omega arith
place_at (x ∷ xs) zero h o = grind (arith, nat_tests)
place_at (x ∷ xs) (suc m) h o = grind (arith, nat_tests, occurs-at xs m, place_at xs m)

pub get_or-place : (g : ℕ → Bool) (xs : List ℕ) (k : ℕ) → 1 ≤ occurrences k xs → get_or (map g xs) (place_of k xs) false ≡ g k
unfolding occurrences place_of
get_or-place g [] k h = absurd (omega arith)
get_or-place g (x ∷ xs) k h = grind (arith, nat_tests, get_or-place g xs k)

-- a list whose places are told apart by ks is read back through ks
pub gathered : (w : List Bool) (ks : List ℕ) → length w ≡ length ks
    → ((m : ℕ) → m < length ks → occurrences (get_or ks m 0) ks ≡ 1) → w ≡ map (λ k. get_or w (place_of k ks) false) ks
gathered w ks h o =
    let g : ℕ → Bool = λ k. get_or w (place_of k ks) false in
    ext_get_or false w (map g ks) (h ∙ sym (length-map ks g))
    (λ m l. let l' : m < length ks = omega arith in
    sym (get_or-map g ks m 0 false l' ∙ ap (λ n. get_or w n false) (place_at ks m l' (o m l'))))
