-- The laws of a single bit of an and, or, xor, complement, shift, remainder, power of two and row of ones. Assumes nothing.
use Rattle.std.proofs.Common.{◌≡◌, ℕ, suc, ◌+◌, ◌-◌, ◌*◌, ◌/◌, ◌%◌, ◌^◌, ◌<◌, ◌≤◌, min, max, Bool, true, false, not, ◌&&◌, ◌||◌, eqb, ltb, sym, refl, ap, ◌∙◌, inl, inr, mod-eq_of_lt, mul_assoc, mul_comm, pow-suc, arith, pow_mono}
use mathlib.Core.Bool.{xor}
use native.Mathlib.Nat.{div-eq_of_lt, div_self}
use lib.Bits.{bit_and, bit_or, bit_xor, and_step, or_step, xor_add_and, and_shr, or_shr, xor_shr, and_mask}
use lib.Pow.{pow-lt, ones_lt}
use Rattle.std.proofs.lemmas.Nat.{pow_pos, pow-add, shl-shr, shr-shr, field_of, mod-pow-add}
use Rattle.std.proofs.lemmas.Bool.{lt-ltb, le-ltb, eq-eqb, ne_eqb, cases_lt, cases_order, and_parts}
use Rattle.std.proofs.lemmas.Bool.Decides.{nat_tests}
use Rattle.base.specs.Bits.{bit_of}

and-odd : (p q : ℕ) → eqb (bit_and p q % 2) 1 ≡ (eqb (p % 2) 1 && eqb (q % 2) 1)
and-odd p q =
    let e : bit_and p q % 2 ≡ min (p % 2) (q % 2) = omega (arith, and_step p q) in
    grind (arith, nat_tests)

or-odd : (p q : ℕ) → eqb (bit_or p q % 2) 1 ≡ (eqb (p % 2) 1 || eqb (q % 2) 1)
or-odd p q =
    let e : bit_or p q % 2 ≡ max (p % 2) (q % 2) = omega (arith, or_step p q) in
    grind (arith, nat_tests)

xor-odd : (p q : ℕ) → eqb (bit_xor p q % 2) 1 ≡ xor (eqb (p % 2) 1) (eqb (q % 2) 1)
unfolding xor
xor-odd p q =
    let e : bit_xor p q % 2 ≡ (p % 2 + q % 2) % 2 = omega (arith, xor_add_and p q) in
    grind (arith, nat_tests)

pub bit-and : (a b k : ℕ) → bit_of (bit_and a b) k ≡ (bit_of a k && bit_of b k)
unfolding bit_of
bit-and a b k = ap (λ (x : ℕ). eqb (x % 2) 1) (and_shr a b k) ∙ and-odd (a / 2 ^ k) (b / 2 ^ k)

pub bit-or : (a b k : ℕ) → bit_of (bit_or a b) k ≡ (bit_of a k || bit_of b k)
unfolding bit_of
bit-or a b k = ap (λ (x : ℕ). eqb (x % 2) 1) (or_shr a b k) ∙ or-odd (a / 2 ^ k) (b / 2 ^ k)

pub bit-xor : (a b k : ℕ) → bit_of (bit_xor a b) k ≡ xor (bit_of a k) (bit_of b k)
unfolding bit_of
bit-xor a b k = ap (λ (x : ℕ). eqb (x % 2) 1) (xor_shr a b k) ∙ xor-odd (a / 2 ^ k) (b / 2 ^ k)

pub bit-shr : (x j k : ℕ) → bit_of (x / 2 ^ j) k ≡ bit_of x (j + k)
unfolding bit_of
bit-shr x j k = ap (λ (y : ℕ). eqb (y % 2) 1) (shr-shr x j k)

-- a number of fewer bits has none at k
pub bit_past : (x j k : ℕ) → x < 2 ^ j → j ≤ k → bit_of x k ≡ false
unfolding bit_of
bit_past x j k h l =
    let m : 2 ^ j ≤ 2 ^ k = pow_mono l in
    let z : x / 2 ^ k ≡ 0 = div-eq_of_lt (omega arith) in
    rw z

pub bit-zero : (k : ℕ) → bit_of 0 k ≡ false
bit-zero k = bit_past 0 0 k (omega arith) (omega arith)

pub bit-shl : (x j k : ℕ) → bit_of (x * 2 ^ j) (j + k) ≡ bit_of x k
bit-shl x j k = sym (bit-shr (x * 2 ^ j) j k) ∙ ap (λ (y : ℕ). bit_of y k) (shl-shr x j)

shl-even : (x d k : ℕ) → x * 2 ^ (suc d + k) / 2 ^ k ≡ 2 * (x * 2 ^ d)
shl-even x d k =
    ap (λ (m : ℕ). x * m / 2 ^ k) (pow-add 2 (suc d) k)
    ∙ ap (λ (m : ℕ). m / 2 ^ k) (sym (mul_assoc x (2 ^ suc d) (2 ^ k)))
    ∙ shl-shr (x * 2 ^ suc d) k
    ∙ ap (λ (m : ℕ). x * m) (pow-suc 2 d)
    ∙ sym (mul_assoc x (2 ^ d) 2)
    ∙ mul_comm (x * 2 ^ d) 2

pub bit-shl-low : (x j k : ℕ) → k < j → bit_of (x * 2 ^ j) k ≡ false
unfolding bit_of
bit-shl-low x j k h =
    let e : j ≡ suc (j - suc k) + k = omega arith in
    let s : x * 2 ^ j / 2 ^ k ≡ 2 * (x * 2 ^ (j - suc k)) = ap (λ (m : ℕ). x * 2 ^ m / 2 ^ k) e ∙ shl-even x (j - suc k) k in
    grind (arith, nat_tests)

-- the bits of a remainder by a power of two
pub bit-mod : (x w k : ℕ) → k < w → bit_of (x % 2 ^ w) k ≡ bit_of x k
unfolding bit_of
bit-mod x w k h =
    let e : w ≡ ((w - suc k) + 1) + k = omega arith in
    let f : x % 2 ^ w / 2 ^ k ≡ x / 2 ^ k % 2 ^ ((w - suc k) + 1) = ap (λ (m : ℕ). x % 2 ^ m / 2 ^ k) e ∙ field_of x ((w - suc k) + 1) k in
    let g = mod-pow-add (x / 2 ^ k) (w - suc k) 1 in
    let p : x / 2 ^ k % 2 ^ ((w - suc k) + 1) % 2 ≡ x / 2 ^ k % 2 = omega arith in
    ap (λ (y : ℕ). eqb (y % 2) 1) f ∙ ap (λ (y : ℕ). eqb y 1) p

pub bit-pow-same : (j : ℕ) → bit_of (2 ^ j) j ≡ true
unfolding bit_of
bit-pow-same j =
    let e : 2 ^ j / 2 ^ j ≡ 1 = div_self (pow_pos j) in
    rw e

pub bit-pow : (j k : ℕ) → bit_of (2 ^ j) k ≡ eqb k j
bit-pow j k =
    elim (cases_order k j) [
      | inl e ↦ ap (λ (m : ℕ). bit_of (2 ^ j) m) e ∙ bit-pow-same j ∙ sym (eq-eqb k j e)
      | inr (inl l) ↦
          let one : 1 * 2 ^ j ≡ 2 ^ j = omega arith in
          ap (λ (m : ℕ). bit_of m k) (sym one) ∙ bit-shl-low 1 j k l ∙ sym (ne_eqb k j (λ e. omega arith))
      | inr (inr g) ↦ bit_past (2 ^ j) (suc j) k (pow-lt (omega arith)) g ∙ sym (ne_eqb k j (λ e. omega arith))
    ]

-- j ones
pub bit-ones : (j k : ℕ) → bit_of (2 ^ j - 1) k ≡ ltb k j
bit-ones j k =
    elim (cases_lt k j) [
      | inl l ↦
          let whole : bit_and (2 ^ k) (2 ^ j - 1) ≡ 2 ^ k = and_mask (2 ^ k) j ∙ mod-eq_of_lt (pow-lt l) in
          let here : (bit_of (2 ^ k) k && bit_of (2 ^ j - 1) k) ≡ true = sym (bit-and (2 ^ k) (2 ^ j - 1) k) ∙ ap (λ (m : ℕ). bit_of m k) whole ∙ bit-pow-same k in
          (and_parts (bit_of (2 ^ k) k) (bit_of (2 ^ j - 1) k) here).1 ∙ sym (lt-ltb k j l)
      | inr g ↦ bit_past (2 ^ j - 1) j k (ones_lt j) g ∙ sym (le-ltb k j g)
    ]

xor-true : (a : Bool) → xor a true ≡ not a
unfolding xor
xor-true true = refl
xor-true false = refl

-- the complement in a word of w bits
pub bit_not : (x w k : ℕ) → x < 2 ^ w → k < w → bit_of (2 ^ w - 1 - x) k ≡ not (bit_of x k)
unfolding xor
bit_not x w k h l =
    let all : bit_and x (2 ^ w - 1) ≡ x = and_mask x w ∙ mod-eq_of_lt h in
    let both : bit_xor x (2 ^ w - 1) ≡ 2 ^ w - 1 - x = omega (arith, xor_add_and x (2 ^ w - 1)) in
    let ones : bit_of (2 ^ w - 1) k ≡ true = bit-ones w k ∙ lt-ltb k w l in
    let here : bit_of (bit_xor x (2 ^ w - 1)) k ≡ xor (bit_of x k) true = bit-xor x (2 ^ w - 1) k ∙ ap (xor (bit_of x k)) ones in
    ap (λ (m : ℕ). bit_of m k) (sym both) ∙ here ∙ xor-true (bit_of x k)
