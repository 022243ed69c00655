-- The remainder is linear: it is the sum of the remainders of the payload's single ones. Assumes nothing.
use Rattle.std.proofs.Common.{◌≡◌, ℕ, zero, suc, ◌+◌, ◌-◌, Bool, true, false, cond, ◌&&◌, List, [], ◌∷◌, ◌++◌, length, get_or, replicate, sym, refl, ap, ◌∙◌, ap₂, arith, length-append}
use mathlib.Core.Bool.{xor}
use Rattle.std.proofs.lemmas.Bool.Decides.{nat_tests}
use lib.ListN.{length-replicate}
use Rattle.std.proofs.lemmas.List.{replicate-append-replicate}
use Rattle.base.specs.Counts.{xor_below}
use Rattle.crc.specs.Division.{added, divided, remainder}
use Rattle.crc.proofs.Remainders.{length-added, length-chosen, length-remainder}
use Rattle.base.proofs.Transform.{xor-false-l, xor-below-same}
use Rattle.crc.proofs.Xors.{xor_below-first}

-- additions in either order
pub added-left : (ds xs ys : List Bool) → length xs ≡ length ys → added ds (added xs ys) ≡ added (added ds xs) ys
unfolding added xor
added-left [] xs ys h = refl
added-left (d ∷ ds) [] [] h = refl
added-left (d ∷ ds) [] (y ∷ ys) h = absurd (omega arith)
added-left (d ∷ ds) (x ∷ xs) [] h = absurd (omega arith)
added-left (d ∷ ds) (x ∷ xs) (y ∷ ys) h = grind (arith, nat_tests, added-left ds xs ys)

pub added-right : (ds xs ys : List Bool) → length xs ≡ length ys → added ds (added xs ys) ≡ added xs (added ds ys)
unfolding added xor
added-right [] xs ys h = refl
added-right (d ∷ ds) [] [] h = refl
added-right (d ∷ ds) [] (y ∷ ys) h = absurd (omega arith)
added-right (d ∷ ds) (x ∷ xs) [] h = absurd (omega arith)
added-right (d ∷ ds) (x ∷ xs) (y ∷ ys) h = grind (arith, nat_tests, added-right ds xs ys)

added_twice : (ds ys : List Bool) → added ds (added ds ys) ≡ ys
unfolding added xor
added_twice [] ys = refl
added_twice (d ∷ ds) [] = refl
added_twice (d ∷ ds) (y ∷ ys) = grind (arith, nat_tests, added_twice ds ys)

chosen-added : (ds xs ys : List Bool) (x y : Bool) → length xs ≡ length ys
    → cond (xor x y) (added ds (added xs ys)) (added xs ys) ≡ added (cond x (added ds xs) xs) (cond y (added ds ys) ys)
unfolding xor
chosen-added ds xs ys true true h =
    let l : length xs ≡ length (added ds ys) = h ∙ sym (length-added ds ys) in
    ap (added xs) (sym (added_twice ds ys)) ∙ sym (added-right ds xs (added ds ys) l) ∙ added-left ds xs (added ds ys) l
chosen-added ds xs ys true false h = added-left ds xs ys h
chosen-added ds xs ys false true h = added-right ds xs ys h
chosen-added ds xs ys false false h = refl

pub divided-added : (ds : List Bool) (n : ℕ) (xs ys : List Bool) → length xs ≡ length ys
    → divided ds n (added xs ys) ≡ added (divided ds n xs) (divided ds n ys)
unfolding divided added
divided-added ds zero xs ys h = refl
divided-added ds (suc n) [] [] h = refl
divided-added ds (suc n) [] (y ∷ ys) h = absurd (omega arith)
divided-added ds (suc n) (x ∷ xs) [] h = absurd (omega arith)
divided-added ds (suc n) (x ∷ xs) (y ∷ ys) h =
    let e : length xs ≡ length ys = omega arith in
    ap (divided ds n) (chosen-added ds xs ys x y e)
    ∙ divided-added ds n (cond x (added ds xs) xs) (cond y (added ds ys) ys)
    (length-chosen ds xs x ∙ e ∙ sym (length-chosen ds ys y))

get_or-added : (xs ys : List Bool) (j : ℕ) → length xs ≡ length ys → get_or (added xs ys) j false ≡ xor (get_or xs j false) (get_or ys j false)
unfolding added xor
get_or-added [] [] j h = refl
get_or-added [] (y ∷ ys) j h = absurd (omega arith)
get_or-added (x ∷ xs) [] j h = absurd (omega arith)
get_or-added (x ∷ xs) (y ∷ ys) zero h = refl
get_or-added (x ∷ xs) (y ∷ ys) (suc j) h = get_or-added xs ys j (omega arith)

added-zeros : (n : ℕ) (ys : List Bool) → added (replicate n false) ys ≡ ys
unfolding added xor
added-zeros zero ys = refl
added-zeros (suc n) [] = refl
added-zeros (suc n) (y ∷ ys) = ap₂ (λ b l. b ∷ l) (xor-false-l y) (added-zeros n ys)

pub get_or-zeros : (n j : ℕ) → get_or (replicate n false) j false ≡ false
get_or-zeros zero j = refl
get_or-zeros (suc n) zero = refl
get_or-zeros (suc n) (suc j) = get_or-zeros n j

-- the remainder of a one that n bits follow
abbrev pub lone : List Bool → ℕ → List Bool
lone ds n = remainder ds (true ∷ replicate n false)

divided-one : (ds p : List Bool)
    → divided ds (length p) (added ds (p ++ replicate (length ds) false)) ≡ added (lone ds (length p)) (remainder ds p)
unfolding divided
divided-one ds p =
    let n = length p in
    let l = length ds in
    let Z = replicate n false ++ replicate l false in
    let ys = p ++ replicate l false in
    let lz : length Z ≡ length ys =
    length-append (replicate n false) (replicate l false) ∙ ap (λ k. k + length (replicate l false)) (length-replicate n false)
    ∙ sym (length-append p (replicate l false)) in
    let y : added Z ys ≡ ys = ap (λ z. added z ys) (replicate-append-replicate n l false) ∙ added-zeros (n + l) ys in
    let e : length (replicate n false) ≡ n = length-replicate n false in
    ap (λ t. divided ds n (added ds t)) (sym y) ∙ ap (divided ds n) (added-left ds Z ys lz)
    ∙ divided-added ds n (added ds Z) ys (length-added ds Z ∙ lz)
    ∙ ap (λ k. added (divided ds k (added ds Z)) (divided ds n ys)) (sym e)

length-lone : (ds p : List Bool) → length (lone ds (length p)) ≡ length (remainder ds p)
length-lone ds p = length-remainder ds (true ∷ replicate (length p) false) ∙ sym (length-remainder ds p)

remainder-first : (ds p : List Bool) (b : Bool) (j : ℕ)
    → get_or (remainder ds (b ∷ p)) j false ≡ xor (get_or (lone ds (length p)) j false && b) (get_or (remainder ds p) j false)
unfolding divided xor
remainder-first ds p true j = grind (arith, nat_tests, divided-one ds p, get_or-added (lone ds (length p)) (remainder ds p) j, length-lone ds p)
remainder-first ds p false j = grind (arith, nat_tests)

pub remainder-sum : (ds p : List Bool) (j : ℕ)
    → get_or (remainder ds p) j false ≡ xor_below (λ i. get_or (lone ds (length p - 1 - i)) j false && get_or p i false) (length p)
unfolding divided xor_below
remainder-sum ds [] j = get_or-zeros (length ds) j
remainder-sum ds (b ∷ p) j =
    let n = length p in
    let f : ℕ → Bool = λ i. get_or (lone ds (suc n - 1 - i)) j false && get_or (b ∷ p) i false in
    let z : suc n - 1 - 0 ≡ n = omega arith in
    remainder-first ds p b j
    ∙ ap₂ xor (ap (λ k. get_or (lone ds k) j false && b) (sym z))
    (remainder-sum ds p j
    ∙ xor-below-same (λ i. get_or (lone ds (n - 1 - i)) j false && get_or p i false) (λ i. f (suc i)) n
    (λ i h. let e : n - 1 - i ≡ suc n - 1 - suc i = omega arith in ap (λ k. get_or (lone ds k) j false && get_or p i false) e))
    ∙ sym (xor_below-first f n)

-- zeros in front change nothing
pub remainder-zeros : (ds p : List Bool) (n : ℕ) → remainder ds (replicate n false ++ p) ≡ remainder ds p
unfolding divided
remainder-zeros ds p zero = refl
remainder-zeros ds p (suc n) = remainder-zeros ds p n
