-- The rows of the spread checks as numbers, with check bit j at 2 ^ j, and the order as a table. Assumes nothing.
use Rattle.std.proofs.Common.{◌≡◌, ℕ, zero, suc, ◌+◌, ◌/◌, ◌%◌, ◌^◌, ◌<◌, ◌≤◌, true, false, eqb, [], length, get_or, sym, refl, ap, ◌∙◌, ⊎_elim, div-one, arith}
use Rattle.std.proofs.lemmas.List.{get_or-map}
use Rattle.std.proofs.lemmas.Bool.{cases_lt}
use Rattle.base.specs.Bits.{bit_of}
use Rattle.base.proofs.Bits.{bit-shr, bit_past}
use Rattle.crc.specs.Spread.{width, longest, rows, enters, placed}
use Rattle.crc.specs.declared.spread.Spread.{Spread}
use Rattle.crc.specs.declared.spread.Spread.TheVariants.{Four, TwentyFour}
use Rattle.crc.proofs.Occurrences.{inside, inside-at}
use Rattle.crc.proofs.Tables.{low_bits, masks, places, rows-masks, placed-places}

bit_of-first : (n : ℕ) → bit_of n 0 ≡ eqb (n % 2) 1
unfolding bit_of
bit_of-first n = ap (λ x. eqb (x % 2) 1) (div-one n)

bit_of-next : (n j : ℕ) → bit_of (n / 2) j ≡ bit_of n (suc j)
bit_of-next n j =
    let e : 1 + j ≡ suc j = omega arith in
    bit-shr n 1 j ∙ ap (bit_of n) e

low_bits-at : (l n j : ℕ) → j < l → get_or (low_bits l n) j false ≡ bit_of n j
unfolding low_bits
low_bits-at zero n j h = absurd (omega arith)
low_bits-at (suc l) n zero h = sym (bit_of-first n)
low_bits-at (suc l) n (suc j) h = low_bits-at l (n / 2) j (omega arith) ∙ bit_of-next n j

low_bits-past : (l n j : ℕ) → l ≤ j → get_or (low_bits l n) j false ≡ false
unfolding low_bits
low_bits-past zero n j h = refl
low_bits-past (suc l) n zero h = absurd (omega arith)
low_bits-past (suc l) n (suc j) h = low_bits-past l (n / 2) j (omega arith)

masks-long : (c : Spread) → length (masks c) ≡ longest c
unfolding masks
masks-long Four = refl
masks-long TwentyFour = refl

masks-inside : (c : Spread) → inside (2 ^ width c) (masks c) ≡ true
unfolding masks inside
masks-inside Four = refl
masks-inside TwentyFour = refl

-- bit j of mask k is row k at j; kind is the kind that a match has found to be c
pub mask-row : (kind c : Spread) (k j : ℕ) → kind ≡ c → k < longest kind → bit_of (get_or (masks c) k 0) j ≡ enters (rows kind) k j
unfolding enters
mask-row kind c k j e h =
    let n = get_or (masks c) k 0 in
    let l : k < length (masks c) = omega (arith, masks-long c, ap longest e) in
    let i : n < 2 ^ width c = inside-at (2 ^ width c) (masks c) k (masks-inside c) l in
    ⊎_elim (λ b. sym (low_bits-at (width c) n j b)) (λ b. bit_past n (width c) j i b ∙ sym (low_bits-past (width c) n j b))
    (cases_lt j (width c))
    ∙ ap (λ r. get_or r j false) (sym (get_or-map (low_bits (width c)) (masks c) k 0 [] l))
    ∙ ap (λ rs. get_or (get_or rs k []) j false) (sym (rows-masks c) ∙ ap rows (sym e))

-- the table is the order of the longest word
pub order-placed : (kind c : Spread) → kind ≡ c → places c ≡ placed (rows kind) (width kind)
order-placed kind c e = sym (ap (λ d. placed (rows d) (width d)) e ∙ placed-places c)
