-- Bits of a list of words: past its end, one word written, each word transformed, and a stage between words. Assumes nothing.
use Rattle.std.proofs.Common.{◌≡◌, ℕ, suc, ◌+◌, ◌*◌, ◌/◌, ◌%◌, ◌^◌, ◌<◌, ◌≤◌, Bool, true, false, cond, ◌&&◌, eqb, ltb, List, length, get_or, set, replicate, sym, refl, ap, ◌∙◌, inl, inr, arith}
use mathlib.Core.Bool.{xor}
use lib.Bits.{bit_xor}
use Rattle.std.proofs.lemmas.Nat.{pow-add, shr-shr}
use Rattle.std.proofs.lemmas.List.{get_or-set_same, get_or-set_other, get_or_past, get_or-replicate, length-replicate, length-set}
use Rattle.std.proofs.lemmas.Bool.{cases_eq, cases_lt, lt-ltb, le-ltb, ne_eqb}
use Rattle.std.proofs.lemmas.Bool.Decides.{nat_tests}
use Rattle.base.specs.Bits.{bit_of}
use Rattle.base.proofs.Bits.{bit-zero, bit-xor}
use Rattle.base.proofs.Transform.{code-bit-same}
use Rattle.bits.specs.Blocks.{added_word, block_bit, stage_bit, words_bit}
use Rattle.bits.specs.Row.{row_bit, set_bit}
use Rattle.bits.specs.declared.row.Row.{Row}
use Rattle.bits.proofs.Butterfly.{block-bit-first, partner-within}

pub words-bit-past : (ws : List ℕ) (k : ℕ) → 64 * length ws ≤ k → words_bit ws k ≡ false
unfolding words_bit
words-bit-past ws k l =
    let past : length ws ≤ k / 64 = omega arith in
    ap (λ (x : ℕ). bit_of x (k % 64)) (get_or_past ws (k / 64) 0 past) ∙ bit-zero (k % 64)

pub row-bit-past : (row : Row) (k : ℕ) → 1024 ≤ k → row_bit row k ≡ false
unfolding row_bit
row-bit-past row k far = words-bit-past row.words k (omega (arith, row.whole))

pub words-bit-zero : (n k : ℕ) → words_bit (replicate n 0) k ≡ false
unfolding words_bit
words-bit-zero n k = elim (cases_lt (k / 64) n) [
  | inl below ↦ ap (λ (x : ℕ). bit_of x (k % 64)) (get_or-replicate n (k / 64) 0 0 below) ∙ bit-zero (k % 64)
  | inr above ↦ words-bit-past (replicate n 0) k (omega (arith, length-replicate {A = ℕ} n 0))
]

-- word k / 64 with bit k % 64 set to b
pub words-bit-set : (ws : List ℕ) (k y : ℕ) (b : Bool) → length ws ≡ 16 → k < 1024 → ((j : ℕ) → j < 64 → bit_of y j ≡ cond (eqb j (k % 64)) b (bit_of (get_or ws (k / 64) 0) j)) → (j : ℕ) → words_bit (set ws (k / 64) y) j ≡ set_bit (words_bit ws) k b j
unfolding words_bit
words-bit-set ws k y b whole l h j = elim (cases_eq (j / 64) (k / 64)) [
  | inl e ↦
      let within : k / 64 < length ws = omega arith in
      let here : get_or (set ws (k / 64) y) (j / 64) 0 ≡ y = ap (λ (m : ℕ). get_or (set ws (k / 64) y) m 0) e ∙ get_or-set_same ws (k / 64) y 0 within in
      let test : eqb (j % 64) (k % 64) ≡ (eqb j k && ltb k 1024) = grind (arith, nat_tests) in
      ap (λ (x : ℕ). bit_of x (j % 64)) here
      ∙ h (j % 64) (omega arith)
      ∙ ap (λ (t : Bool). cond t b (bit_of (get_or ws (k / 64) 0) (j % 64))) test
      ∙ ap (λ (m : ℕ). cond (eqb j k && ltb k 1024) b (bit_of (get_or ws m 0) (j % 64))) (sym e)
  | inr ne ↦
      let test : (eqb j k && ltb k 1024) ≡ false = grind (arith, nat_tests) in
      ap (λ (x : ℕ). bit_of x (j % 64)) (get_or-set_other ws (k / 64) (j / 64) y 0 ne)
      ∙ ap (λ (t : Bool). cond t b (words_bit ws j)) (sym test)
]

bit-cond : (t : Bool) (x y k : ℕ) → bit_of (cond t (bit_xor x y) x) k ≡ cond t (xor (bit_of x k) (bit_of y k)) (bit_of x k)
bit-cond true x y k = bit-xor x y k
bit-cond false x y k = refl

-- a stage between words in place: the words below i hold it, the others are as they were
abbrev pub Added : ℕ → List ℕ → ℕ → List ℕ → Type 0
Added s ws i vs = (j : ℕ) → j < length vs → get_or vs j 0 ≡ cond (ltb j i) (added_word s ws j) (get_or ws j 0)

added-above : (s : ℕ) (ws vs : List ℕ) (i j : ℕ) → Added s ws i vs → i ≤ j → j < length vs → get_or vs j 0 ≡ get_or ws j 0
added-above s ws vs i j before above l = before j l ∙ ap (λ (t : Bool). cond t (added_word s ws j) (get_or ws j 0)) (le-ltb j i above)

added-here : (s : ℕ) (ws vs : List ℕ) (i : ℕ) → length vs % 2 ^ suc s ≡ 0 → i < length vs → Added s ws i vs → added_word s vs i ≡ added_word s ws i
added-here s ws vs i pairs l before =
    let here : get_or vs i 0 ≡ get_or ws i 0 = added-above s ws vs i i before (omega arith) l in
    elim (cases_eq (i / 2 ^ s % 2) 0) [
      | inl even ↦
          let upper : get_or vs (i + 2 ^ s) 0 ≡ get_or ws (i + 2 ^ s) 0 = added-above s ws vs i (i + 2 ^ s) before (omega arith) (partner-within s (length vs) i pairs l even) in
          cc
      | inr odd ↦
          let off : eqb (i / 2 ^ s % 2) 0 ≡ false = ne_eqb (i / 2 ^ s % 2) 0 odd in
          ap (λ (t : Bool). cond t (bit_xor (get_or vs i 0) (get_or vs (i + 2 ^ s) 0)) (get_or vs i 0)) off
          ∙ here
          ∙ ap (λ (t : Bool). cond t (bit_xor (get_or ws i 0) (get_or ws (i + 2 ^ s) 0)) (get_or ws i 0)) (sym off)
    ]

pub added_more : (s : ℕ) (ws vs : List ℕ) (i y : ℕ) → length vs % 2 ^ suc s ≡ 0 → i < length vs → y ≡ added_word s vs i → Added s ws i vs → Added s ws (i + 1) (set vs i y)
added_more s ws vs i y pairs l e before j h =
    elim (cases_eq j i) [
      | inl same ↦
          let test : ltb j (i + 1) ≡ true = lt-ltb j (i + 1) (omega arith) in
          ap (λ (m : ℕ). get_or (set vs i y) m 0) same
          ∙ get_or-set_same vs i y 0 l
          ∙ e
          ∙ added-here s ws vs i pairs l before
          ∙ ap (added_word s ws) (sym same)
          ∙ ap (λ (t : Bool). cond t (added_word s ws j) (get_or ws j 0)) (sym test)
      | inr ne ↦
          let short : j < length vs = omega (arith, length-set vs i y) in
          let test : ltb j i ≡ ltb j (i + 1) = grind (arith, nat_tests) in
          get_or-set_other vs i j y 0 ne
          ∙ before j short
          ∙ ap (λ (t : Bool). cond t (added_word s ws j) (get_or ws j 0)) test
    ]

-- each word transformed by itself
pub words-each : (ws vs : List ℕ) → ((i : ℕ) → i < length ws → (k : ℕ) → k < 64 → bit_of (get_or vs i 0) k ≡ block_bit 6 (bit_of (get_or ws i 0)) k) → (k : ℕ) → k < 64 * length ws → words_bit vs k ≡ block_bit 6 (words_bit ws) k
unfolding words_bit block_bit
words-each ws vs h k l =
    let i : ℕ = k / 64 in
    let r : ℕ = k % 64 in
    let within : i < length ws = omega arith in
    let low : r < 2 ^ 6 = omega arith in
    let bits : (j : ℕ) → j < 64 → bit_of (get_or ws i 0) j ≡ words_bit ws (k / 64 * 64 + j) = λ j b.
    let block : (k / 64 * 64 + j) / 64 ≡ i = omega arith in
    let place : (k / 64 * 64 + j) % 64 ≡ j = omega arith in
    ap (λ (m : ℕ). bit_of (get_or ws i 0) m) (sym place) ∙ ap (λ (m : ℕ). bit_of (get_or ws m 0) ((k / 64 * 64 + j) % 64)) (sym block) in
    h i within r low
    ∙ block-bit-first 6 (bit_of (get_or ws i 0)) r low
    ∙ code-bit-same 6 (bit_of (get_or ws i 0)) (λ j. words_bit ws (k / 64 * 64 + j)) r bits

-- a stage between words is a stage of their bits
pub words-stage : (s : ℕ) (ws vs : List ℕ) → ((i : ℕ) → i < length ws → get_or vs i 0 ≡ added_word s ws i) → (k : ℕ) → k < 64 * length ws → words_bit vs k ≡ stage_bit (6 + s) (words_bit ws) k
unfolding words_bit
words-stage s ws vs h k l =
    let i : ℕ = k / 64 in
    let r : ℕ = k % 64 in
    let within : i < length ws = omega arith in
    let wide : 2 ^ (6 + s) ≡ 64 * 2 ^ s = pow-add 2 6 s in
    let upper-word : (k + 2 ^ (6 + s)) / 64 ≡ i + 2 ^ s = omega arith in
    let upper-place : (k + 2 ^ (6 + s)) % 64 ≡ r = omega arith in
    let test : k / 64 / 2 ^ s ≡ k / 2 ^ (6 + s) = shr-shr k 6 s in
    let upper : bit_of (get_or ws (i + 2 ^ s) 0) r ≡ words_bit ws (k + 2 ^ (6 + s)) =
    ap (λ (m : ℕ). bit_of (get_or ws m 0) r) (sym upper-word) ∙ ap (bit_of (get_or ws ((k + 2 ^ (6 + s)) / 64) 0)) (sym upper-place) in
    ap (λ (x : ℕ). bit_of x r) (h i within)
    ∙ bit-cond (eqb (i / 2 ^ s % 2) 0) (get_or ws i 0) (get_or ws (i + 2 ^ s) 0) r
    ∙ ap (λ (m : ℕ). cond (eqb (m % 2) 0) (xor (bit_of (get_or ws i 0) r) (bit_of (get_or ws (i + 2 ^ s) 0) r)) (bit_of (get_or ws i 0) r)) test
    ∙ ap (λ (b : Bool). cond (eqb (k / 2 ^ (6 + s) % 2) 0) (xor (bit_of (get_or ws i 0) r) b) (bit_of (get_or ws i 0) r)) upper
