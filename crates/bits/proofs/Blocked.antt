-- The transform of an aligned block of a row, from that of a part of one word or of a run of words. Assumes nothing.
use Rattle.std.proofs.Common.{◌≡◌, ℕ, ◌+◌, ◌-◌, ◌*◌, ◌/◌, ◌%◌, ◌^◌, ◌<◌, ◌≤◌, true, false, ◌&&◌, eqb, ltb, leb, ◌⊎◌, List, length, get_or, take, drop, set, sym, ap, ◌∙◌, inl, inr, arith, rules}
use borrow.Rule.Slice.PartMut.{put_mid}
use lib.Pow.{mod-mod-pow}
use Rattle.std.proofs.lemmas.Nat.{pow-add, mod-pow-add}
use Rattle.std.proofs.lemmas.List.{get_or-set_same, get_or-set_other, get_or-take, get_or-drop, places}
use Rattle.std.proofs.lemmas.Bool.{cases_eq, and_from, and_left, and_parts, eq-eqb, eqb-true, le-leb, leb-true, lt-leb, lt-ltb, ltb-true}
use Rattle.base.specs.Bits.{bit_of}
use Rattle.base.specs.Transform.{code_bit}
use Rattle.base.proofs.Transform.{code-bit-same}
use Rattle.bits.specs.Blocks.{words_bit}
use Rattle.bits.specs.Row.{is_aligned_block}
use Rattle.bits.proofs.Butterfly.{block-fits, pow-whole}

-- what the test of an aligned block says
pub record Placed (base n : ℕ) : Type 0 where
  pub short : n ≤ 10
  pub low : base < 1024
  pub aligned : base % 2 ^ n ≡ 0

pub block-placed : (base n : ℕ) → is_aligned_block base n ≡ true → Placed base n
block-placed base n h =
    let outer = and_parts (leb n 10) (ltb base 1024 && eqb (base % 2 ^ n) 0) h in
    let inner = and_parts (ltb base 1024) (eqb (base % 2 ^ n) 0) outer.1 in
    record { short = leb-true n 10 outer.0; low = ltb-true base 1024 inner.0; aligned = eqb-true (base % 2 ^ n) 0 inner.1 }

pub is_block : (base n : ℕ) → n ≤ 10 → base < 1024 → base % 2 ^ n ≡ 0 → is_aligned_block base n ≡ true
is_block base n short low aligned =
    and_from (leb n 10) (ltb base 1024 && eqb (base % 2 ^ n) 0) (le-leb n 10 short)
    (and_from (ltb base 1024) (eqb (base % 2 ^ n) 0) (lt-ltb base 1024 low) (eq-eqb (base % 2 ^ n) 0 aligned))

pub no_block : (base n : ℕ) → 10 < n → is_aligned_block base n ≡ false
no_block base n long = and_left (leb n 10) (ltb base 1024 && eqb (base % 2 ^ n) 0) (lt-leb n 10 long)

-- vs are the words ws with the 2 ^ n bits from base on transformed
pub record Blocked (ws : List ℕ) (base n : ℕ) (vs : List ℕ) : Type 0 where
  pub inside : (i : ℕ) → i < 2 ^ n → words_bit vs (base + i) ≡ code_bit n (λ k. words_bit ws (base + k)) i
  pub outside : (k : ℕ) → (k < base) ⊎ (base + 2 ^ n ≤ k) → words_bit vs k ≡ words_bit ws k

-- an aligned block of at most 64 bits is aligned in its word
pub word-aligned : (base n : ℕ) → n ≤ 6 → Placed base n → base % 64 % 2 ^ n ≡ 0
word-aligned base n short p =
    let e : 6 ≡ (6 - n) + n = omega arith in
    ap (λ (m : ℕ). base % 2 ^ m % 2 ^ n) e ∙ mod-mod-pow base (6 - n) n ∙ p.aligned

pub blocked-word : (ws : List ℕ) (base n y : ℕ) → length ws ≡ 16 → n ≤ 6 → Placed base n
    → ((i : ℕ) → i < 2 ^ n → bit_of y (base % 64 + i) ≡ code_bit n (λ k. bit_of (get_or ws (base / 64) 0) (base % 64 + k)) i)
    → ((k : ℕ) → k < 64 → (k < base % 64) ⊎ (base % 64 + 2 ^ n ≤ k) → bit_of y k ≡ bit_of (get_or ws (base / 64) 0) k)
    → Blocked ws base n (set ws (base / 64) y)
unfolding words_bit
blocked-word ws base n y whole room p in-word apart =
    let fit : base % 64 + 2 ^ n ≤ 64 = block-fits n 64 (base % 64) (pow-whole n 6 room) (word-aligned base n room p) (omega arith) in
    let within : base / 64 < length ws = omega (arith, p.low) in
    let word : (k : ℕ) → k < 2 ^ n → (base + k) / 64 ≡ base / 64 = λ k l. omega arith in
    let place : (k : ℕ) → k < 2 ^ n → (base + k) % 64 ≡ base % 64 + k = λ k l. omega arith in
    record {
      inside = λ i l.
          ap (λ (m : ℕ). bit_of (get_or (set ws (base / 64) y) m 0) ((base + i) % 64)) (word i l)
          ∙ ap (λ (x : ℕ). bit_of x ((base + i) % 64)) (get_or-set_same ws (base / 64) y 0 within)
          ∙ ap (bit_of y) (place i l)
          ∙ in-word i l
          ∙ code-bit-same n (λ k. bit_of (get_or ws (base / 64) 0) (base % 64 + k)) (λ k. words_bit ws (base + k)) i
          (λ k b.
          ap (bit_of (get_or ws (base / 64) 0)) (sym (place k b))
          ∙ ap (λ (m : ℕ). bit_of (get_or ws m 0) ((base + k) % 64)) (sym (word k b)));
      outside = λ k away.
          elim (cases_eq (k / 64) (base / 64)) [
            | inl same ↦
                ap (λ (m : ℕ). bit_of (get_or (set ws (base / 64) y) m 0) (k % 64)) same
                ∙ ap (λ (x : ℕ). bit_of x (k % 64)) (get_or-set_same ws (base / 64) y 0 within)
                ∙ apart (k % 64) (omega arith) (elim away [ inl b ↦ inl (omega arith) | inr a ↦ inr (omega arith) ])
                ∙ ap (λ (m : ℕ). bit_of (get_or ws m 0) (k % 64)) (sym same)
            | inr other ↦ ap (λ (x : ℕ). bit_of x (k % 64)) (get_or-set_other ws (base / 64) (k / 64) y 0 other)
          ];
    }

-- a run of c words from a on, and the words with another run put in its place

part_length : (a c : ℕ) (ws : List ℕ) → a + c ≤ length ws → length (take c (drop a ws)) ≡ c
part_length a c ws fit = search (rules, places)

put-length : (a c : ℕ) (ws ys : List ℕ) → a + c ≤ length ws → length ys ≡ c → length (put_mid a c ws ys) ≡ length ws
put-length a c ws ys fit len = search (rules, places)

put-inside : (a c : ℕ) (ws ys : List ℕ) (i : ℕ) → a + c ≤ length ws → length ys ≡ c → i < c → get_or (put_mid a c ws ys) (a + i) 0 ≡ get_or ys i 0
put-inside a c ws ys i fit len l = search (rules, places)

put-outside : (a c : ℕ) (ws ys : List ℕ) (j : ℕ) → a + c ≤ length ws → length ys ≡ c → (j < a) ⊎ (a + c ≤ j) → get_or (put_mid a c ws ys) j 0 ≡ get_or ws j 0
put-outside a c ws ys j fit len (inl l) = search (rules, places)
put-outside a c ws ys j fit len (inr l) = search (rules, places)

-- a block of whole words begins at a word, and at one that is aligned among the words
words-aligned : (base n : ℕ) → 6 ≤ n → Placed base n → (base % 64 ≡ 0) × (base / 64 % 2 ^ (n - 6) ≡ 0)
words-aligned base n long p =
    let e : n ≡ (n - 6) + 6 = omega arith in
    let parts : 0 ≡ (base / 64 % 2 ^ (n - 6)) * 64 + base % 64 = sym p.aligned ∙ ap (λ (m : ℕ). base % 2 ^ m) e ∙ mod-pow-add base (n - 6) 6 in
    (omega arith, omega arith)

pub words-fit : (base n c : ℕ) → 6 ≤ n → Placed base n → c ≡ 2 ^ (n - 6) → base / 64 + c ≤ 16
words-fit base n c long p count =
    let room : n - 6 ≤ 4 = omega (arith, p.short) in
    omega (arith, block-fits (n - 6) 16 (base / 64) (pow-whole (n - 6) 4 room) (words-aligned base n long p).1 (omega (arith, p.low)))

-- the words of a block of 2 ^ n bits, c of them, and others as many
pub record Run (ws : List ℕ) (base n c : ℕ) (ys : List ℕ) : Type 0 where
  pub long : 6 ≤ n
  pub placed : Placed base n
  pub whole : length ws ≡ 16
  pub count : c ≡ 2 ^ (n - 6)
  pub same : length ys ≡ length (take c (drop (base / 64) ws))

-- as a part of the words is lent: from base / 64 to base / 64 + p
pub run_lent : (ws ys : List ℕ) (base n p : ℕ) → 6 ≤ n → is_aligned_block base n ≡ true → length ws ≡ 16 → p ≡ 2 ^ (n - 6)
    → length ys ≡ length (take (base / 64 + p - base / 64) (drop (base / 64) ws)) → Run ws base n (base / 64 + p - base / 64) ys
run_lent ws ys base n p long block whole count same =
    record { long = long; placed = block-placed base n block; whole = whole; count = omega arith; same = same }

run-fit : (ws ys : List ℕ) (base n c : ℕ) → Run ws base n c ys → base / 64 + c ≤ length ws
run-fit ws ys base n c r = omega (arith, words-fit base n c r.long r.placed r.count, r.whole)

pub run-put : (ws ys : List ℕ) (base n c : ℕ) → Run ws base n c ys → length (put_mid (base / 64) c ws ys) ≡ 16
run-put ws ys base n c r =
    let fit = run-fit ws ys base n c r in
    put-length (base / 64) c ws ys fit (r.same ∙ part_length (base / 64) c ws fit) ∙ r.whole

pub blocked-words : (ws ys : List ℕ) (base n c : ℕ) → Run ws base n c ys
    → ((i : ℕ) → i < 2 ^ (6 + (n - 6)) → words_bit ys i ≡ code_bit (6 + (n - 6)) (words_bit (take c (drop (base / 64) ws))) i)
    → Blocked ws base n (put_mid (base / 64) c ws ys)
unfolding words_bit
blocked-words ws ys base n c r done =
    let a : ℕ = base / 64 in
    let start : base % 64 ≡ 0 = (words-aligned base n r.long r.placed).0 in
    let fit : a + c ≤ length ws = run-fit ws ys base n c r in
    let len : length ys ≡ c = r.same ∙ part_length a c ws fit in
    let count : c ≡ 2 ^ (n - 6) = r.count in
    let bits : 6 + (n - 6) ≡ n = omega (arith, r.long) in
    let size : 2 ^ n ≡ 64 * 2 ^ (n - 6) = ap (λ (m : ℕ). 2 ^ m) (sym bits) ∙ pow-add 2 6 (n - 6) in
    let size-all : 2 ^ (6 + (n - 6)) ≡ 64 * 2 ^ (n - 6) = pow-add 2 6 (n - 6) in
    let word : (k : ℕ) → (base + k) / 64 ≡ a + k / 64 = λ k. omega arith in
    let place : (k : ℕ) → (base + k) % 64 ≡ k % 64 = λ k. omega arith in
    record {
      inside = λ i l.
          ap (λ (m : ℕ). bit_of (get_or (put_mid a c ws ys) m 0) ((base + i) % 64)) (word i)
          ∙ ap (λ (x : ℕ). bit_of x ((base + i) % 64)) (put-inside a c ws ys (i / 64) fit len (omega arith))
          ∙ ap (bit_of (get_or ys (i / 64) 0)) (place i)
          ∙ done i (omega arith)
          ∙ ap (λ (m : ℕ). code_bit m (words_bit (take c (drop a ws))) i) bits
          ∙ code-bit-same n (words_bit (take c (drop a ws))) (λ k. words_bit ws (base + k)) i
          (λ k b.
          ap (λ (x : ℕ). bit_of x (k % 64)) (get_or-take c (drop a ws) (k / 64) 0 (omega arith) ∙ get_or-drop a ws (k / 64) 0)
          ∙ ap (λ (m : ℕ). bit_of (get_or ws m 0) (k % 64)) (sym (word k))
          ∙ ap (bit_of (get_or ws ((base + k) / 64) 0)) (sym (place k)));
      outside = λ k away.
          ap (λ (x : ℕ). bit_of x (k % 64)) (put-outside a c ws ys (k / 64) fit len (elim away [ inl b ↦ inl (omega arith) | inr b ↦ inr (omega arith) ]));
    }
