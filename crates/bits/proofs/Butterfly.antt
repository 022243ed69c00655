-- A stage of the butterfly turns the transforms of the blocks of 2 ^ s bits into those of the blocks of 2 ^ (s + 1). Assumes nothing.
use Rattle.std.proofs.Common.{◌≡◌, ℕ, suc, ◌+◌, ◌-◌, ◌*◌, ◌/◌, ◌%◌, ◌^◌, ◌<◌, ◌≤◌, Bool, true, false, cond, eqb, List, [], ◌∷◌, ◌++◌, length, get_or, sym, refl, ap, ◌∙◌, inl, inr, mod-eq_of_lt, mul_assoc, mul_comm, add-mul, arith}
use mathlib.Core.Bool.{xor}
use native.Mathlib.Nat.{div-eq_of_lt, add-mul-div_right, add-mul-mod_self_right, mul-mod_left, pow-succ'}
use lib.Pow.{split}
use Rattle.std.proofs.lemmas.Nat.{pow_pos, pow-add, shr-shr, mod-pow-add, mod_below, div_below, mul-le, div-mul-add, mod-mul-add}
use Rattle.std.proofs.lemmas.Bool.{eq-eqb, ne_eqb, cases_eq}
use Rattle.std.proofs.lemmas.List.{get_or_append_left, get_or_push, length_push}
use Rattle.std.proofs.lemmas.List.FromFn.{get_or-range_with_len, length-range_with_len}
use Rattle.std.specs.List.{range_with_len}
use Rattle.base.specs.Bits.{bit_of}
use Rattle.base.specs.Counts.{xor_below}
use Rattle.base.specs.Transform.{code_bit}
use Rattle.base.proofs.Transform.{code-bit-low, code-bit-high, code-bit-same, xor-false-l}
use Rattle.bits.specs.Blocks.{block_bit, stage_bit}

-- code bit r of block b
abbrev block_at : ℕ → (ℕ → Bool) → ℕ → ℕ → Bool
block_at s u b r = code_bit s (λ j. u (b * 2 ^ s + j)) r

even-start : (s c : ℕ) → c * 2 ^ suc s ≡ 2 * c * 2 ^ s
even-start s c = ap (λ (m : ℕ). c * m) (pow-succ' 2 s) ∙ sym (mul_assoc c 2 (2 ^ s)) ∙ ap (λ (m : ℕ). m * 2 ^ s) (mul_comm c 2)

odd-start : (s c : ℕ) → (2 * c + 1) * 2 ^ s ≡ 2 * c * 2 ^ s + 2 ^ s
odd-start s c = omega (arith, add-mul (2 * c) 1 (2 ^ s))

upper-half : (s c j : ℕ) → c * 2 ^ suc s + (2 ^ s + j) ≡ (2 * c + 1) * 2 ^ s + j
upper-half s c j = omega (arith, even-start s c, odd-start s c)

block-low : (s : ℕ) (u : ℕ → Bool) (c r : ℕ) → r < 2 ^ s → block_at (suc s) u c r ≡ xor (block_at s u (2 * c) r) (block_at s u (2 * c + 1) r)
block-low s u c r h =
    let first : code_bit s (λ j. u (c * 2 ^ suc s + j)) r ≡ block_at s u (2 * c) r = code-bit-same s (λ j. u (c * 2 ^ suc s + j)) (λ j. u (2 * c * 2 ^ s + j)) r (λ j _. ap (λ (m : ℕ). u (m + j)) (even-start s c)) in
    let second : code_bit s (λ j. u (c * 2 ^ suc s + (2 ^ s + j))) r ≡ block_at s u (2 * c + 1) r = code-bit-same s (λ j. u (c * 2 ^ suc s + (2 ^ s + j))) (λ j. u ((2 * c + 1) * 2 ^ s + j)) r (λ j _. ap u (upper-half s c j)) in
    code-bit-low s (λ j. u (c * 2 ^ suc s + j)) r h
    ∙ ap (λ (b : Bool). xor b (code_bit s (λ j. u (c * 2 ^ suc s + (2 ^ s + j))) r)) first
    ∙ ap (xor (block_at s u (2 * c) r)) second

block-high : (s : ℕ) (u : ℕ → Bool) (c r : ℕ) → r < 2 ^ s → block_at (suc s) u c (2 ^ s + r) ≡ block_at s u (2 * c + 1) r
block-high s u c r h =
    code-bit-high s (λ j. u (c * 2 ^ suc s + j)) r h
    ∙ code-bit-same s (λ j. u (c * 2 ^ suc s + (2 ^ s + j))) (λ j. u ((2 * c + 1) * 2 ^ s + j)) r (λ j _. ap u (upper-half s c j))

div-next : (s k : ℕ) → (k + 2 ^ s) / 2 ^ s ≡ k / 2 ^ s + 1
div-next s k = let e : 1 * 2 ^ s ≡ 2 ^ s = omega arith in ap (λ (m : ℕ). (k + m) / 2 ^ s) (sym e) ∙ add-mul-div_right k 1 (pow_pos s)

mod-next : (s k : ℕ) → (k + 2 ^ s) % 2 ^ s ≡ k % 2 ^ s
mod-next s k = let e : 1 * 2 ^ s ≡ 2 ^ s = omega arith in ap (λ (m : ℕ). (k + m) % 2 ^ s) (sym e) ∙ add-mul-mod_self_right k 1 (2 ^ s)

-- the block and the place of k among blocks twice as long
half-block : (s k : ℕ) → k / 2 ^ suc s ≡ k / 2 ^ s / 2
half-block s k = let e : suc s ≡ s + 1 = omega arith in ap (λ (m : ℕ). k / 2 ^ m) e ∙ sym (shr-shr k s 1)

half_place : (s k : ℕ) → k % 2 ^ suc s ≡ (k / 2 ^ s % 2) * 2 ^ s + k % 2 ^ s
half_place s k = let e : suc s ≡ 1 + s = omega arith in ap (λ (m : ℕ). k % 2 ^ m) e ∙ mod-pow-add k 1 s

pub butterfly : (s : ℕ) (u : ℕ → Bool) (k : ℕ) → block_bit (suc s) u k ≡ stage_bit s (block_bit s u) k
unfolding block_bit
butterfly s u k =
    let c : ℕ = k / 2 ^ s / 2 in
    let r : ℕ = k % 2 ^ s in
    let lt : r < 2 ^ s = mod_below k (2 ^ s) (pow_pos s) in
    elim (cases_eq (k / 2 ^ s % 2) 0) [
      | inl even ↦
          let q : k / 2 ^ s ≡ 2 * c = omega arith in
          let place : k % 2 ^ suc s ≡ r = half_place s k ∙ ap (λ (m : ℕ). m * 2 ^ s + r) even ∙ omega arith in
          let next : (k + 2 ^ s) / 2 ^ s ≡ 2 * c + 1 = div-next s k ∙ ap (λ (m : ℕ). m + 1) q in
          let on : eqb (k / 2 ^ s % 2) 0 ≡ true = eq-eqb (k / 2 ^ s % 2) 0 even in
          ap (λ (m : ℕ). block_at (suc s) u m (k % 2 ^ suc s)) (half-block s k)
          ∙ ap (block_at (suc s) u c) place
          ∙ block-low s u c r lt
          ∙ ap (λ (m : ℕ). xor (block_at s u m r) (block_at s u (2 * c + 1) r)) (sym q)
          ∙ ap (λ (m : ℕ). xor (block_bit s u k) (block_at s u m r)) (sym next)
          ∙ ap (λ (m : ℕ). xor (block_bit s u k) (block_at s u ((k + 2 ^ s) / 2 ^ s) m)) (sym (mod-next s k))
          ∙ ap (λ (b : Bool). cond b (xor (block_bit s u k) (block_bit s u (k + 2 ^ s))) (block_bit s u k)) (sym on)
      | inr odd ↦
          let q : k / 2 ^ s ≡ 2 * c + 1 = omega arith in
          let one : k / 2 ^ s % 2 ≡ 1 = omega arith in
          let place : k % 2 ^ suc s ≡ 2 ^ s + r = half_place s k ∙ ap (λ (m : ℕ). m * 2 ^ s + r) one ∙ omega arith in
          let off : eqb (k / 2 ^ s % 2) 0 ≡ false = ne_eqb (k / 2 ^ s % 2) 0 odd in
          ap (λ (m : ℕ). block_at (suc s) u m (k % 2 ^ suc s)) (half-block s k)
          ∙ ap (block_at (suc s) u c) place
          ∙ block-high s u c r lt
          ∙ ap (λ (m : ℕ). block_at s u m r) (sym q)
          ∙ ap (λ (b : Bool). cond b (xor (block_bit s u k) (block_bit s u (k + 2 ^ s))) (block_bit s u k)) (sym off)
    ]

pub pow-whole : (a b : ℕ) → a ≤ b → 2 ^ b % 2 ^ a ≡ 0
pow-whole a b h =
    let e : b ≡ (b - a) + a = omega arith in
    ap (λ (m : ℕ). 2 ^ m % 2 ^ a) e ∙ ap (λ (m : ℕ). m % 2 ^ a) (pow-add 2 (b - a) a) ∙ mul-mod_left (2 ^ (b - a)) (2 ^ a)

-- where the bits come in whole pairs of blocks, the partner of a bit is among them
pub partner-within : (s len k : ℕ) → len % 2 ^ suc s ≡ 0 → k < len → k / 2 ^ s % 2 ≡ 0 → k + 2 ^ s < len
partner-within s len k h l e =
    let p : ℕ = 2 ^ suc s in
    let lt : k % 2 ^ s < 2 ^ s = mod_below k (2 ^ s) (pow_pos s) in
    let place : k % p ≡ k % 2 ^ s = half_place s k ∙ ap (λ (m : ℕ). m * 2 ^ s + k % 2 ^ s) e ∙ omega arith in
    let whole : len / p * p ≡ len = omega (arith, split len (suc s)) in
    let below : k / p < len / p = div_below k p (len / p) (pow_pos (suc s)) (omega arith) in
    let more : (k / p + 1) * p ≤ len / p * p = mul-le (k / p + 1) p (len / p) p (omega arith) (omega arith) in
    omega (arith, split k (suc s), add-mul (k / p) 1 p)

-- an aligned block that begins among whole blocks lies among them
pub block-fits : (n len base : ℕ) → len % 2 ^ n ≡ 0 → base % 2 ^ n ≡ 0 → base < len → base + 2 ^ n ≤ len
block-fits n len base h e l =
    let p : ℕ = 2 ^ n in
    let blocks : len / p * p ≡ len = omega (arith, split len n) in
    let start : base / p * p ≡ base = omega (arith, split base n) in
    let below : base / p < len / p = div_below base p (len / p) (pow_pos n) (omega arith) in
    let more : (base / p + 1) * p ≤ len / p * p = mul-le (base / p + 1) p (len / p) p (omega arith) (omega arith) in
    omega (arith, add-mul (base / p) 1 p)

-- the stage s on len bits that hold the transforms of their blocks of 2 ^ s
pub stage-more : (s len : ℕ) (u v w : ℕ → Bool) → len % 2 ^ suc s ≡ 0 → ((k : ℕ) → k < len → v k ≡ block_bit s u k) → ((k : ℕ) → k < len → w k ≡ stage_bit s v k) → (k : ℕ) → k < len → w k ≡ block_bit (suc s) u k
stage-more s len u v w h before step k l =
    step k l ∙ elim (cases_eq (k / 2 ^ s % 2) 0) [
      | inl even ↦
          let on : eqb (k / 2 ^ s % 2) 0 ≡ true = eq-eqb (k / 2 ^ s % 2) 0 even in
          ap (λ (b : Bool). cond b (xor (v k) (v (k + 2 ^ s))) (v k)) on
          ∙ ap (λ (b : Bool). xor b (v (k + 2 ^ s))) (before k l)
          ∙ ap (xor (block_bit s u k)) (before (k + 2 ^ s) (partner-within s len k h l even))
          ∙ ap (λ (b : Bool). cond b (xor (block_bit s u k) (block_bit s u (k + 2 ^ s))) (block_bit s u k)) (sym on)
          ∙ sym (butterfly s u k)
      | inr odd ↦
          let off : eqb (k / 2 ^ s % 2) 0 ≡ false = ne_eqb (k / 2 ^ s % 2) 0 odd in
          ap (λ (b : Bool). cond b (xor (v k) (v (k + 2 ^ s))) (v k)) off
          ∙ before k l
          ∙ ap (λ (b : Bool). cond b (xor (block_bit s u k) (block_bit s u (k + 2 ^ s))) (block_bit s u k)) (sym off)
          ∙ sym (butterfly s u k)
    ]

pub stage-none : (u : ℕ → Bool) (k : ℕ) → u k ≡ block_bit 0 u k
unfolding block_bit xor_below
stage-none u k =
    let p : k / 1 * 1 + 0 ≡ k = omega arith in
    let q : k % 1 ≡ 0 = omega arith in
    ap u (sym p) ∙ sym (xor-false-l (u (k / 1 * 1 + 0))) ∙ ap (λ (m : ℕ). code_bit 0 (λ j. u (k / 1 * 1 + j)) m) (sym q)

-- the first block
pub block-bit-first : (n : ℕ) (u : ℕ → Bool) (i : ℕ) → i < 2 ^ n → block_bit n u i ≡ code_bit n u i
unfolding block_bit
block-bit-first n u i l =
    let start : i / 2 ^ n ≡ 0 = div-eq_of_lt l in
    let place : i % 2 ^ n ≡ i = mod-eq_of_lt l in
    ap (λ (m : ℕ). code_bit n (λ j. u (m * 2 ^ n + j)) (i % 2 ^ n)) start
    ∙ ap (code_bit n (λ j. u (0 * 2 ^ n + j))) place
    ∙ code-bit-same n (λ j. u (0 * 2 ^ n + j)) u i (λ j _. let e : 0 * 2 ^ n + j ≡ j = omega arith in ap u e)

-- the block that begins at base
pub block-bit-at : (n : ℕ) (u : ℕ → Bool) (base i : ℕ) → base % 2 ^ n ≡ 0 → i < 2 ^ n → block_bit n u (base + i) ≡ code_bit n (λ j. u (base + j)) i
unfolding block_bit
block-bit-at n u base i h l =
    let whole : base / 2 ^ n * 2 ^ n ≡ base = omega (arith, split base n) in
    let start : (base / 2 ^ n * 2 ^ n + i) / 2 ^ n * 2 ^ n ≡ base = ap (λ (m : ℕ). m * 2 ^ n) (div-mul-add (base / 2 ^ n) (2 ^ n) i l) ∙ whole in
    let place : (base / 2 ^ n * 2 ^ n + i) % 2 ^ n ≡ i = mod-mul-add (base / 2 ^ n) (2 ^ n) i l in
    ap (λ (m : ℕ). block_bit n u (m + i)) (sym whole)
    ∙ ap (λ (m : ℕ). code_bit n (λ j. u (m + j)) ((base / 2 ^ n * 2 ^ n + i) % 2 ^ n)) start
    ∙ ap (code_bit n (λ j. u (base + j))) place

-- the first n stages were made in order
abbrev pub InOrder : List ℕ → Type 0
InOrder stages = (i : ℕ) → i < length stages → get_or stages i 0 ≡ i

-- what has become of the word x after some stages, where they were made in order
abbrev pub Staged : ℕ → List ℕ → ℕ → Type 0
Staged x stages y = InOrder stages → length stages ≤ 6 → (k : ℕ) → k < 64 → bit_of y k ≡ block_bit (length stages) (bit_of x) k

pub staged_more : (x : ℕ) (stages : List ℕ) (y s z : ℕ) → Staged x stages y
    → (s < 6 → (k : ℕ) → k < 64 → bit_of z k ≡ stage_bit s (bit_of y) k) → Staged x (stages ++ s ∷ []) z
staged_more x stages y s z before step order room k l =
    let n : ℕ = length stages in
    let long : length (stages ++ s ∷ []) ≡ n + 1 = length_push stages s in
    let here : s ≡ n = sym (get_or_push stages s 0 n refl) ∙ order n (omega arith) in
    let front : InOrder stages = λ i low. sym (get_or_append_left stages (s ∷ []) 0 i low) ∙ order i (omega arith) in
    let next : suc n ≡ length (stages ++ s ∷ []) = omega arith in
    let whole : suc n ≤ 6 = omega arith in
    let made : (j : ℕ) → j < 64 → bit_of z j ≡ stage_bit n (bit_of y) j = λ j low.
    step (omega arith) j low ∙ ap (λ (m : ℕ). stage_bit m (bit_of y) j) here in
    stage-more n 64 (bit_of x) (bit_of y) (bit_of z) (pow-whole (suc n) 6 whole) (before front (omega arith)) made k l
    ∙ ap (λ (m : ℕ). block_bit m (bit_of x) k) next

pub range-in_order : (n : ℕ) → InOrder (range_with_len 0 n)
range-in_order n i l =
    let low : i < n = omega (arith, length-range_with_len 0 n) in
    get_or-range_with_len 0 n i 0 low ∙ omega arith
