-- What masks and shifts do to the single bits of a word of 64. Assumes nothing.
use Rattle.std.proofs.Common.{◌≡◌, ℕ, ◌+◌, ◌-◌, ◌*◌, ◌/◌, ◌%◌, ◌^◌, ◌<◌, ◌≤◌, Bool, true, false, cond, not, ◌&&◌, ◌||◌, eqb, ltb, leb, ◌⊎◌, List, [], ◌∷◌, get_or, sym, refl, ap, ◌∙◌, inl, inr, arith}
use mathlib.Core.Bool.{xor}
use lib.Bits.{bit_and, bit_or, bit_xor}
use lib.Pow.{pow-lt}
use Rattle.std.proofs.lemmas.Bool.{le-leb, lt-leb, cases_lt}
use Rattle.std.proofs.lemmas.Bool.Decides.{nat_tests}
use Rattle.base.specs.Bits.{bit_of}
use Rattle.base.specs.Counts.{all_below}
use Rattle.base.proofs.Bits.{bit-and, bit-or, bit-xor, bit-shr, bit-shl, bit-shl-low, bit-mod, bit-pow, bit-ones, bit_not}
use Rattle.base.proofs.Transform.{xor-false-r}
use Rattle.bits.specs.Blocks.{stage_bit}
use Rattle.base.proofs.Counts.{all-at}

or-cond : (a e : Bool) → (a || e) ≡ cond e true a
or-cond true true = refl
or-cond true false = refl
or-cond false true = refl
or-cond false false = refl

and-not-cond : (a e : Bool) → (a && not e) ≡ cond e false a
and-not-cond true true = refl
and-not-cond true false = refl
and-not-cond false true = refl
and-not-cond false false = refl

merge-cond : (a b m : Bool) → ((a && not m) || (b && m)) ≡ cond m b a
merge-cond true true true = refl
merge-cond true true false = refl
merge-cond true false true = refl
merge-cond true false false = refl
merge-cond false true true = refl
merge-cond false true false = refl
merge-cond false false true = refl
merge-cond false false false = refl

added-cond : (a b m : Bool) → xor a (b && m) ≡ cond m (xor a b) a
added-cond a true true = refl
added-cond a false true = refl
added-cond a true false = xor-false-r a
added-cond a false false = xor-false-r a

pub bit-set : (x k j : ℕ) → bit_of (bit_or x (2 ^ k)) j ≡ cond (eqb j k) true (bit_of x j)
bit-set x k j = bit-or x (2 ^ k) j ∙ ap (λ (b : Bool). bit_of x j || b) (bit-pow k j) ∙ or-cond (bit_of x j) (eqb j k)

pub bit-cleared : (x k j : ℕ) → k < 64 → j < 64 → bit_of (bit_and x (2 ^ 64 - 1 - 2 ^ k)) j ≡ cond (eqb j k) false (bit_of x j)
bit-cleared x k j h l =
    bit-and x (2 ^ 64 - 1 - 2 ^ k) j
    ∙ ap (λ (b : Bool). bit_of x j && b) (bit_not (2 ^ k) 64 j (pow-lt h) l ∙ ap not (bit-pow k j))
    ∙ and-not-cond (bit_of x j) (eqb j k)

-- y where the mask has a one, x elsewhere
pub bit-merged : (x y m j : ℕ) → m < 2 ^ 64 → j < 64 → bit_of (bit_or (bit_and x (2 ^ 64 - 1 - m)) (bit_and y m)) j ≡ cond (bit_of m j) (bit_of y j) (bit_of x j)
bit-merged x y m j h l =
    bit-or (bit_and x (2 ^ 64 - 1 - m)) (bit_and y m) j
    ∙ ap (λ (b : Bool). b || bit_of (bit_and y m) j) (bit-and x (2 ^ 64 - 1 - m) j ∙ ap (λ (b : Bool). bit_of x j && b) (bit_not m 64 j h l))
    ∙ ap (λ (b : Bool). (bit_of x j && not (bit_of m j)) || b) (bit-and y m j)
    ∙ merge-cond (bit_of x j) (bit_of y j) (bit_of m j)

-- a stage inside a word, given its mask
pub bit-stage : (x m s k : ℕ) → bit_of m k ≡ eqb (k / 2 ^ s % 2) 0 → bit_of (bit_xor x (bit_and (x / 2 ^ (2 ^ s)) m)) k ≡ stage_bit s (bit_of x) k
bit-stage x m s k h =
    let turn : 2 ^ s + k ≡ k + 2 ^ s = omega arith in
    let upper : bit_of (x / 2 ^ (2 ^ s)) k ≡ bit_of x (k + 2 ^ s) = bit-shr x (2 ^ s) k ∙ ap (bit_of x) turn in
    bit-xor x (bit_and (x / 2 ^ (2 ^ s)) m) k
    ∙ ap (xor (bit_of x k)) (bit-and (x / 2 ^ (2 ^ s)) m k ∙ ap (λ (b : Bool). b && bit_of m k) upper ∙ ap (λ (b : Bool). bit_of x (k + 2 ^ s) && b) h)
    ∙ added-cond (bit_of x k) (bit_of x (k + 2 ^ s)) (eqb (k / 2 ^ s % 2) 0)

-- p ones from offset o on
pub bit-span : (p o k : ℕ) → k < 64 → bit_of ((2 ^ p - 1) * 2 ^ o % 2 ^ 64) k ≡ (leb o k && ltb k (o + p))
bit-span p o k l =
    bit-mod ((2 ^ p - 1) * 2 ^ o) 64 k l ∙ elim (cases_lt k o) [
      | inl below ↦ bit-shl-low (2 ^ p - 1) o k below ∙ ap (λ (b : Bool). b && ltb k (o + p)) (sym (lt-leb o k below))
      | inr above ↦
          let e : k ≡ o + (k - o) = omega arith in
          let same : ltb (k - o) p ≡ ltb k (o + p) = grind (arith, nat_tests) in
          ap (bit_of ((2 ^ p - 1) * 2 ^ o)) e
          ∙ bit-shl (2 ^ p - 1) o (k - o)
          ∙ bit-ones p (k - o)
          ∙ same
          ∙ ap (λ (b : Bool). b && ltb k (o + p)) (sym (le-leb o k above))
    ]

-- y on the 2 ^ n bits from o on, x elsewhere
pub record Merged (x y o n z : ℕ) : Type 0 where
  pub inside : (k : ℕ) → k < 64 → o ≤ k → k < o + 2 ^ n → bit_of z k ≡ bit_of y k
  pub outside : (k : ℕ) → k < 64 → (k < o) ⊎ (o + 2 ^ n ≤ k) → bit_of z k ≡ bit_of x k

pub merged : (x y m o n : ℕ) → m < 2 ^ 64 → ((k : ℕ) → k < 64 → bit_of m k ≡ (leb o k && ltb k (o + 2 ^ n))) → Merged x y o n (bit_or (bit_and x (2 ^ 64 - 1 - m)) (bit_and y m))
merged x y m o n h mask =
    record {
      inside = λ k l a b.
          let on : (leb o k && ltb k (o + 2 ^ n)) ≡ true = grind (arith, nat_tests) in
          bit-merged x y m k h l ∙ ap (λ (t : Bool). cond t (bit_of y k) (bit_of x k)) (mask k l ∙ on);
      outside = λ k l apart.
          let off : (leb o k && ltb k (o + 2 ^ n)) ≡ false = grind (arith, nat_tests) in
          bit-merged x y m k h l ∙ ap (λ (t : Bool). cond t (bit_of y k) (bit_of x k)) (mask k l ∙ off);
    }

-- what a computed test says of each number below its bound
pub beq-true : (a b : Bool) → not (xor a b) ≡ true → a ≡ b
unfolding xor
beq-true true true h = refl
beq-true true false h = sym h
beq-true false true h = h
beq-true false false h = refl

-- the masks of the six stages: bit k is set where bit s of k is 0
abbrev masks : List ℕ
masks = 0x5555555555555555 ∷ 0x3333333333333333 ∷ 0x0f0f0f0f0f0f0f0f ∷ 0x00ff00ff00ff00ff ∷ 0x0000ffff0000ffff ∷ 0x00000000ffffffff ∷ []

abbrev mask-right : ℕ → ℕ → Bool
mask-right s k = not (xor (bit_of (get_or masks s 0) k) (eqb (k / 2 ^ s % 2) 0))

masks-right : all_below (λ s. all_below (mask-right s) 64) 6 ≡ true
unfolding all_below bit_of xor
masks-right = refl

pub bit_mask : (s k : ℕ) → s < 6 → k < 64 → bit_of (get_or masks s 0) k ≡ eqb (k / 2 ^ s % 2) 0
bit_mask s k hs hk =
    beq-true (bit_of (get_or masks s 0) k) (eqb (k / 2 ^ s % 2) 0)
    (all-at (mask-right s) 64 (all-at (λ s. all_below (mask-right s) 64) 6 masks-right s hs) k hk)
