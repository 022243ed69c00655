-- The order of places: its form by parts, that it is a permutation, and that supersets stand later. Assumes nothing.
use Rattle.std.proofs.Common.{◌≡◌, ℕ, ◌+◌, ◌-◌, ◌*◌, ◌/◌, ◌%◌, ◌^◌, ◌<◌, ◌≤◌, true, not, ◌||◌, ltb, leb, get_or, sym, refl, ap, ◌∙◌, subst, ap₂, inl, inr, le_refl, mul_comm, arith}
use native.Mathlib.Nat.{mul-div-mul_left}
use lib.Bits.{bit_and, and_block, and_le_r, and_self}
use Rattle.std.proofs.lemmas.Nat.{pow_pos, pow-add, div-mul-add, mod-mul-add, div-add-mod', mul-add-lt, mod_below, div_below, mul-le}
use Rattle.std.proofs.lemmas.Bool.{eqb-true, eq-eqb, leb-true, ltb-true, cases_eq}
use Rattle.base.specs.Counts.{all_below}
use Rattle.base.specs.Transform.{within}
use Rattle.base.proofs.Counts.{all-at, pigeonhole, onto}
use Rattle.plan.specs.Laws.{OrderPermutes, SupersetsLater}
use Rattle.plan.specs.Order.{pattern, order_at}

-- the part at index a of the pattern
abbrev pub part_at : ℕ → ℕ
part_at a = get_or pattern a 0

parts-inside : all_below (λ a. ltb (part_at a) 32) 32 ≡ true
unfolding pattern all_below
parts-inside = refl

-- two parts are the same, or the second is no superset, or it stands later
parts-later : all_below (λ a. all_below (λ b. not (within (part_at a) (part_at b)) || leb a b) 32) 32 ≡ true
unfolding pattern all_below
parts-later = refl

pub part-inside : (a : ℕ) → a < 32 → part_at a < 32
part-inside a l = ltb-true (part_at a) 32 (all-at (λ k. ltb (part_at k) 32) 32 parts-inside a l)

-- a superset among the parts stands no earlier
part-later : (a b : ℕ) → a < 32 → b < 32 → bit_and (part_at a) (part_at b) ≡ part_at a → a ≤ b
part-later a b l m h =
    let test = all-at (λ y. not (within (part_at a) (part_at y)) || leb a y) 32 (all-at (λ x. all_below (λ y. not (within (part_at x) (part_at y)) || leb x y) 32) 32 parts-later a l) b m in
    leb-true a b (ap (λ t. not t || leb a b) (sym (eq-eqb (bit_and (part_at a) (part_at b)) (part_at a) h)) ∙ test)

part_apart : (a b : ℕ) → a < 32 → b < 32 → part_at a ≡ part_at b → a ≡ b
part_apart a b l m e =
    let up : a ≤ b = part-later a b l m (ap (bit_and (part_at a)) (sym e) ∙ and_self (part_at a)) in
    let down : b ≤ a = part-later b a m l (ap (bit_and (part_at b)) e ∙ and_self (part_at b)) in
    omega arith

-- a number has one quotient and one remainder
digits_same : (w a r b s : ℕ) → r < w → s < w → a * w + r ≡ b * w + s → (a ≡ b) × (r ≡ s)
digits_same w a r b s hr hs e = (
  sym (div-mul-add a w r hr) ∙ ap (λ x. x / w) e ∙ div-mul-add b w s hs,
  sym (mod-mul-add a w r hr) ∙ ap (λ x. x % w) e ∙ mod-mul-add b w s hs,
)

-- with parts of size 2 ^ e
module _ (e : ℕ) where
  whole : 2 ^ (e + 5) ≡ 32 * 2 ^ e
  whole = pow-add 2 e 5 ∙ mul_comm (2 ^ e) 32

  size_is : 2 ^ (e + 5) / 32 ≡ 2 ^ e
  size_is = ap (λ x. x / 32) whole ∙ omega arith

  part-index : (k : ℕ) → k < 2 ^ (e + 5) → k / 2 ^ e < 32
  part-index k l = div_below k (2 ^ e) 32 (pow_pos e) (omega (arith, whole))

  order-form : (k : ℕ) → order_at (e + 5) k ≡ part_at (k / 2 ^ e) * 2 ^ e + k % 2 ^ e
  order-form k =
      ap (λ x. part_at (32 * k / 2 ^ (e + 5)) * x + k % x) size_is
      ∙ ap (λ x. part_at (32 * k / x) * 2 ^ e + k % 2 ^ e) whole
      ∙ ap (λ x. part_at x * 2 ^ e + k % 2 ^ e) (mul-div-mul_left k (2 ^ e) (let pos : 0 < 32 = omega arith in pos))

  inside : (k : ℕ) → k < 2 ^ (e + 5) → order_at (e + 5) k < 2 ^ (e + 5)
  inside k l =
      let below : part_at (k / 2 ^ e) * 2 ^ e + k % 2 ^ e < 2 ^ e * 32 =
      mul-add-lt (part_at (k / 2 ^ e)) (2 ^ e) (k % 2 ^ e) 32 (part-inside (k / 2 ^ e) (part-index k l)) (mod_below k (2 ^ e) (pow_pos e)) in
      omega (arith, order-form k, whole, below, mul_comm (2 ^ e) 32)

  left_below : (k : ℕ) → k % 2 ^ e < 2 ^ e
  left_below k = mod_below k (2 ^ e) (pow_pos e)

  -- equal places have equal parts and equal remainders
  apart : (k l : ℕ) → k < 2 ^ (e + 5) → l < 2 ^ (e + 5) → order_at (e + 5) k ≡ order_at (e + 5) l → k ≡ l
  apart k l hk hl same =
      let parts = digits_same (2 ^ e) (part_at (k / 2 ^ e)) (k % 2 ^ e) (part_at (l / 2 ^ e)) (l % 2 ^ e) (left_below k) (left_below l) (sym (order-form k) ∙ same ∙ order-form l) in
      sym (div-add-mod' k (2 ^ e))
      ∙ ap₂ (λ a r. a * 2 ^ e + r) (part_apart (k / 2 ^ e) (l / 2 ^ e) (part-index k hk) (part-index l hl) parts.0) parts.1
      ∙ div-add-mod' l (2 ^ e)

  -- a superset has a superset for its part, and no smaller remainder
  superset-after : (k l : ℕ) → k < 2 ^ (e + 5) → l < 2 ^ (e + 5) → within (order_at (e + 5) k) (order_at (e + 5) l) ≡ true → k ≤ l
  superset-after k l hk hl h =
      let r : ℕ = k % 2 ^ e in
      let s : ℕ = l % 2 ^ e in
      let pk : ℕ = part_at (k / 2 ^ e) in
      let pl : ℕ = part_at (l / 2 ^ e) in
      let small : bit_and r s < 2 ^ e = omega (arith, and_le_r r s, left_below l) in
      let parts = digits_same (2 ^ e) (bit_and pk pl) (bit_and r s) pk r small (left_below k)
      (sym (and_block e pk pl r s (left_below k) (left_below l))
      ∙ sym (ap₂ bit_and (order-form k) (order-form l))
      ∙ eqb-true (bit_and (order_at (e + 5) k) (order_at (e + 5) l)) (order_at (e + 5) k) h
      ∙ order-form k) in
      let earlier : k / 2 ^ e ≤ l / 2 ^ e = part-later (k / 2 ^ e) (l / 2 ^ e) (part-index k hk) (part-index l hl) parts.0 in
      omega (arith, div-add-mod' k (2 ^ e), div-add-mod' l (2 ^ e), mul-le (k / 2 ^ e) (2 ^ e) (l / 2 ^ e) (2 ^ e) earlier (le_refl (2 ^ e)), and_le_r r s, parts.1)

-- what holds at every e + 5 holds from 5 on
from-five : (P : ℕ → Type 0) → ((e : ℕ) → P (e + 5)) → (n : ℕ) → 5 ≤ n → P n
from-five P h n l = let back : n - 5 + 5 ≡ n = omega arith in subst P back (h (n - 5))

pub order-inside : (n : ℕ) → 5 ≤ n → (k : ℕ) → k < 2 ^ n → order_at n k < 2 ^ n
order-inside = from-five (λ n. (k : ℕ) → k < 2 ^ n → order_at n k < 2 ^ n) inside

pub order-apart : (n : ℕ) → 5 ≤ n → (k l : ℕ) → k < 2 ^ n → l < 2 ^ n → order_at n k ≡ order_at n l → k ≡ l
order-apart = from-five (λ n. (k l : ℕ) → k < 2 ^ n → l < 2 ^ n → order_at n k ≡ order_at n l → k ≡ l) apart

pub order-permutes : OrderPermutes
order-permutes n least most = record {
  inside = order-inside n least;
  once = pigeonhole (order_at n) (2 ^ n) (order-inside n least) (order-apart n least);
}

-- every place has an index
pub order-onto : (n : ℕ) → 5 ≤ n → (i : ℕ) → i < 2 ^ n → (k : ℕ) × (k < 2 ^ n) × (order_at n k ≡ i)
order-onto n least = onto (order_at n) (2 ^ n) (order-inside n least) (order-apart n least)

pub supersets-later : SupersetsLater
supersets-later n least most k l hk hl h other =
    let after : k ≤ l = from-five (λ n. (k l : ℕ) → k < 2 ^ n → l < 2 ^ n → within (order_at n k) (order_at n l) ≡ true → k ≤ l) superset-after n least k l hk hl h in
    elim (cases_eq k l) [ inl s ↦ absurd (other (ap (order_at n) s)) | inr s ↦ omega arith ]
