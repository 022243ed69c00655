-- Numbers with the same lowest bits have the same remainder, and rows agree where their words do. Assumes nothing.
use Rattle.std.proofs.Common.{◌≡◌, ℕ, zero, suc, ◌+◌, ◌*◌, ◌/◌, ◌%◌, ◌^◌, ◌<◌, ◌≤◌, Bool, true, false, eqb, List, length, get_or, take, sym, refl, ap, ◌∙◌, ap₂, inl, inr, mod-eq_of_lt, arith}
use mathlib.Core.Bool.{beq}
use Rattle.std.proofs.lemmas.Nat.{mod-pow-add}
use Rattle.std.proofs.lemmas.Bool.{cases_Bool, cases_lt, eqb-true, eq-eqb}
use Rattle.std.proofs.lemmas.Bool.Decides.{nat_tests, Decides-eqb}
use Rattle.std.proofs.lemmas.List.{ext_get_or, get_or-take, length-take-le}
use Rattle.std.proofs.lemmas.Slice.Eq.{slice_eq-Decides}
use lib.Pointwise.{pointwise}
use Rattle.base.specs.Bits.{bit_of}
use Rattle.base.proofs.Bits.{bit-mod}
use Rattle.base.proofs.Counts.{all-at, all_from}
use Rattle.bits.specs.Blocks.{words_bit}
use Rattle.bits.specs.Row.{same_bits}

-- two tests that follow from one another are the same
pub both-follow : (a b : Bool) → (a ≡ true → b ≡ true) → (b ≡ true → a ≡ true) → a ≡ b
both-follow true b f g = sym (f refl)
both-follow false true f g = g refl
both-follow false false f g = refl

beq_same : (a b : Bool) → beq a b ≡ true → a ≡ b
beq_same true true h = refl
beq_same true false h = sym h
beq_same false true h = h
beq_same false false h = refl

same-beq : (a b : Bool) → a ≡ b → beq a b ≡ true
same-beq true true h = refl
same-beq true false h = sym h
same-beq false true h = h
same-beq false false h = refl

pub bits_at : (u v : ℕ → Bool) (n : ℕ) → same_bits u v n ≡ true → (k : ℕ) → k < n → u k ≡ v k
bits_at u v n h k l = beq_same (u k) (v k) (all-at (λ j. beq (u j) (v j)) n h k l)

pub bits-from : (u v : ℕ → Bool) (n : ℕ) → ((k : ℕ) → k < n → u k ≡ v k) → same_bits u v n ≡ true
bits-from u v n h = all_from (λ j. beq (u j) (v j)) n (λ k l. same-beq (u k) (v k) (h k l))

last_bit : (p q : ℕ) → eqb (p % 2) 1 ≡ eqb (q % 2) 1 → p % 2 ≡ q % 2
last_bit p q h = grind (arith, nat_tests)

remainder-same : (x y w : ℕ) → ((k : ℕ) → k < w → bit_of x k ≡ bit_of y k) → x % 2 ^ w ≡ y % 2 ^ w
unfolding bit_of
remainder-same x y zero h = omega arith
remainder-same x y (suc w) h =
    let front : x % 2 ^ w ≡ y % 2 ^ w = remainder-same x y w (λ k l. h k (omega arith)) in
    let last : x / 2 ^ w % 2 ≡ y / 2 ^ w % 2 = last_bit (x / 2 ^ w) (y / 2 ^ w) (h w (omega arith)) in
    let e : suc w ≡ 1 + w = omega arith in
    ap (λ (m : ℕ). x % 2 ^ m) e
    ∙ mod-pow-add x 1 w
    ∙ ap₂ (λ (p q : ℕ). p * 2 ^ w + q) last front
    ∙ sym (mod-pow-add y 1 w)
    ∙ ap (λ (m : ℕ). y % 2 ^ m) (sym e)

-- the lowest w bits are the same where the remainders by 2 ^ w are
pub low-agree : (x y w : ℕ) → eqb (x % 2 ^ w) (y % 2 ^ w) ≡ same_bits (bit_of x) (bit_of y) w
low-agree x y w =
    both-follow _ _
    (λ h. bits-from (bit_of x) (bit_of y) w (λ k l.
    sym (bit-mod x w k l) ∙ ap (λ (m : ℕ). bit_of m k) (eqb-true (x % 2 ^ w) (y % 2 ^ w) h) ∙ bit-mod y w k l))
    (λ h. eq-eqb (x % 2 ^ w) (y % 2 ^ w) (remainder-same x y w (bits_at (bit_of x) (bit_of y) w h)))

-- the first n words are the same
abbrev pub WordsSame : (a b : List ℕ) → ℕ → Type 0
WordsSame a b n = (k : ℕ) → k < n → get_or a k 0 ≡ get_or b k 0

same_word : (a b : List ℕ) (k j : ℕ) → j < 64 → words_bit a (64 * k + j) ≡ words_bit b (64 * k + j) → bit_of (get_or a k 0) j ≡ bit_of (get_or b k 0) j
unfolding words_bit
same_word a b k j l h =
    let word : (64 * k + j) / 64 ≡ k = omega arith in
    let place : (64 * k + j) % 64 ≡ j = omega arith in
    let at : (c : List ℕ) → bit_of (get_or c ((64 * k + j) / 64) 0) ((64 * k + j) % 64) ≡ bit_of (get_or c k 0) j =
    λ c. ap₂ (λ (p q : ℕ). bit_of (get_or c p 0) q) word place in
    sym (at a) ∙ h ∙ at b

-- what the test of the first n words says
pub words-same : (a b : List ℕ) (n : ℕ) (r : Bool) → r ≡ pointwise eqb (take n a) (take n b) → r ≡ true → WordsSame a b n
words-same a b n r is agree k l =
    let same : take n a ≡ take n b = (slice_eq-Decides Decides-eqb (take n a) (take n b) r is).0 agree in
    sym (get_or-take n a k 0 l) ∙ ap (λ (ws : List ℕ). get_or ws k 0) same ∙ get_or-take n b k 0 l

abbrev pub Words64 : List ℕ → Type 0
Words64 a = (k : ℕ) → get_or a k 0 < 2 ^ 64

-- where whole words differ, so do the rows
pub words-differ : (a b : List ℕ) (n : ℕ) (r : Bool) → length a ≡ length b → n / 64 ≤ length a → Words64 a → Words64 b
    → r ≡ pointwise eqb (take (n / 64) a) (take (n / 64) b) → r ≡ false → r ≡ same_bits (words_bit a) (words_bit b) n
words-differ a b n r long room fa fb is differ =
    elim (cases_Bool (same_bits (words_bit a) (words_bit b) n)) [
      | inl h ↦
          let whole : (k : ℕ) → k < n / 64 → get_or a k 0 ≡ get_or b k 0 = λ k l.
          sym (mod-eq_of_lt (fa k))
          ∙ remainder-same (get_or a k 0) (get_or b k 0) 64 (λ j low. same_word a b k j low (bits_at (words_bit a) (words_bit b) n h (64 * k + j) (omega arith)))
          ∙ mod-eq_of_lt (fb k) in
          let size-a : length (take (n / 64) a) ≡ n / 64 = length-take-le (n / 64) a room in
          let size-b : length (take (n / 64) b) ≡ n / 64 = length-take-le (n / 64) b (omega arith) in
          let same : take (n / 64) a ≡ take (n / 64) b =
          ext_get_or 0 (take (n / 64) a) (take (n / 64) b) (size-a ∙ sym size-b)
          (λ k l.
          let low : k < n / 64 = omega arith in
          get_or-take (n / 64) a k 0 low ∙ whole k low ∙ sym (get_or-take (n / 64) b k 0 low)) in
          (slice_eq-Decides Decides-eqb (take (n / 64) a) (take (n / 64) b) r is).1 same ∙ sym h
      | inr h ↦ differ ∙ sym h
    ]

-- where all whole words are the same, the bits of the next one decide
pub rest-decides : (a b : List ℕ) (n : ℕ) → WordsSame a b (n / 64) → same_bits (bit_of (get_or a (n / 64) 0)) (bit_of (get_or b (n / 64) 0)) (n % 64) ≡ same_bits (words_bit a) (words_bit b) n
unfolding words_bit
rest-decides a b n same =
    both-follow _ _
    (λ h. bits-from (words_bit a) (words_bit b) n (λ k l. elim (cases_lt (k / 64) (n / 64)) [
      | inl low ↦ ap (λ (x : ℕ). bit_of x (k % 64)) (same (k / 64) low)
      | inr high ↦
          let word : n / 64 ≡ k / 64 = omega arith in
          let place : k % 64 < n % 64 = omega arith in
          ap (λ (m : ℕ). bit_of (get_or a m 0) (k % 64)) (sym word)
          ∙ bits_at (bit_of (get_or a (n / 64) 0)) (bit_of (get_or b (n / 64) 0)) (n % 64) h (k % 64) place
          ∙ ap (λ (m : ℕ). bit_of (get_or b m 0) (k % 64)) word
    ]))
    (λ h. bits-from (bit_of (get_or a (n / 64) 0)) (bit_of (get_or b (n / 64) 0)) (n % 64) (λ j l.
    same_word a b (n / 64) j (omega arith) (bits_at (words_bit a) (words_bit b) n h (64 * (n / 64) + j) (omega arith))))

pub nothing_left : (a b : List ℕ) (n : ℕ) → WordsSame a b (n / 64) → n % 64 ≡ 0 → true ≡ same_bits (words_bit a) (words_bit b) n
nothing_left a b n same none =
    sym (sym (rest-decides a b n same) ∙ bits-from (bit_of (get_or a (n / 64) 0)) (bit_of (get_or b (n / 64) 0)) (n % 64) (λ k l. absurd (omega arith)))
