-- The turns of the loops of the spread check, along the bits of its word. Assumes nothing.
use Rattle.std.proofs.Common.{◌≡◌, ℕ, suc, ◌+◌, ◌-◌, ◌/◌, ◌^◌, ◌<◌, ◌≤◌, Bool, true, false, ◌&&◌, ◌||◌, eqb, leb, List, [], ◌∷◌, ◌++◌, map, length, get_or, take, set, sym, refl, ap, ◌∙◌, arith}
use mathlib.Core.Bool.{xor}
use lib.Bits.{bit_and, and_mask}
use Rattle.base.specs.Counts.{xor_below}
use Rattle.std.proofs.lemmas.List.{take_more_set, take_all, append-nil, append_assoc, length-take, length-append}
use Rattle.std.proofs.lemmas.List.FromFn.{fill_by_all}
use Rattle.std.proofs.lemmas.Bool.Decides.{nat_tests}
use Rattle.std.proofs.lemmas.Bool.{lt-ltb}
use Rattle.crc.specs.Division.{remainder}
use Rattle.base.specs.Bits.{bit_of}
use Rattle.crc.specs.Spread.{width, longest, divisor, rows, enters, order, interleaved, place_of, deinterleaved, enters_at, broken}
use Rattle.crc.specs.declared.spread.Spread.{Spread}
use Rattle.crc.proofs.Occurrences.{occurrences, gathered}
use Rattle.crc.proofs.Walks.{walk, walk_same}
use Rattle.base.proofs.Bits.{bit-zero}
use Rattle.base.proofs.Transform.{xor-below-same}
use Rattle.crc.proofs.Scatters.{scattered, length-scattered, scattered-at}
use Rattle.crc.proofs.Interleaving.{order-long, order-once, order-each, broken-walk, checks-sum, whole, length-interleaved}

pub odd-bit : (n j : ℕ) → eqb (bit_and (n / 2 ^ j) 1) 1 ≡ bit_of n j
unfolding bit_of
odd-bit n j = ap (λ x. eqb x 1) (and_mask (n / 2 ^ j) 1)

-- ---- the check bits of a payload

-- sums of the first i bits of a payload
abbrev pub Summed : Spread → List Bool → ℕ → ℕ → Type 0
Summed c p i sums = (j : ℕ) → bit_of sums j ≡ xor_below (λ k. enters_at c (length p) j k && get_or p k false) i

pub sums-none : (c : Spread) (p : List Bool) → Summed c p 0 0
unfolding xor_below
sums-none c p j = bit-zero j

pub sums-more : (c : Spread) (p : List Bool) (i sums r : ℕ) → Summed c p i sums
    → ((j : ℕ) → bit_of r j ≡ xor (bit_of sums j) (enters_at c (length p) j i && get_or p i false)) → Summed c p (i + 1) r
unfolding xor_below
sums-more c p i sums r inv e j =
    let f : ℕ → Bool = λ k. enters_at c (length p) j k && get_or p k false in
    let n : i + 1 ≡ suc i = omega arith in
    e j ∙ ap (λ x. xor x (f i)) (inv j) ∙ sym (ap (xor_below f) n)

pub sums-all : (c : Spread) (p : List Bool) (i sums : ℕ) → i ≡ length p → length p ≤ longest c → Summed c p i sums
    → (j : ℕ) → bit_of sums j ≡ get_or (remainder (divisor c) p) j false
unfolding enters_at
sums-all c p i sums ei h inv j =
    let a = length p in
    inv j ∙ ap (xor_below (λ k. enters_at c a j k && get_or p k false)) ei
    ∙ xor-below-same (λ k. enters_at c a j k && get_or p k false) (λ k. enters (rows c) (longest c - a + k) j && get_or p k false) a
    (λ k l. ap (λ t. (t && enters (rows c) (longest c - a + k) j) && get_or p k false) (lt-ltb k a l))
    ∙ sym (checks-sum c p j h)

-- ---- judging a beginning b along the bits ks of its word

abbrev pub judged : Spread → ℕ → ℕ → List ℕ → List Bool → Bool
judged c a sums ks b = walk a (enters_at c a) (bit_of sums) ks b

pub judged-start : (c : Spread) (a : ℕ) (ks : List ℕ) (b : List Bool) → a ≤ longest c → ks ≡ order c a → judged c a 0 ks b ≡ broken c a b
judged-start c a ks b h e =
    walk_same a (enters_at c a) (bit_of 0) (λ _. false) ks b bit-zero ∙ ap (λ l. walk a (enters_at c a) (λ _. false) l b) e ∙ sym (broken-walk c a b h)

-- d says whether the next bit disagrees with the sums
pub judged-broken : (c : Spread) (a sums k : ℕ) (v d : Bool) (ks : List ℕ) (b : List Bool) → d ≡ (leb a k && xor v (bit_of sums (k - a))) → d ≡ true
    → judged c a sums (k ∷ ks) (v ∷ b) ≡ true
unfolding walk
judged-broken c a sums k v d ks b hd t = grind (arith, nat_tests)

pub judged-next : (c : Spread) (a sums r k : ℕ) (v d : Bool) (ks : List ℕ) (b : List Bool) → d ≡ (leb a k && xor v (bit_of sums (k - a))) → d ≡ false
    → ((j : ℕ) → bit_of r j ≡ xor (bit_of sums j) (enters_at c a j k && v)) → judged c a r ks b ≡ judged c a sums (k ∷ ks) (v ∷ b)
unfolding walk
judged-next c a sums r k v d ks b hd f hr =
    let s : ℕ → Bool = λ j. xor (bit_of sums j) (enters_at c a j k && v) in
    walk_same a (enters_at c a) (bit_of r) s ks b hr ∙ sym (ap (λ t. t || walk a (enters_at c a) s ks b) (sym hd ∙ f))

pub judged-bare : (c : Spread) (a sums : ℕ) (b : List Bool) → judged c a sums [] b ≡ false
unfolding walk
judged-bare c a sums b = refl

pub judged-short : (c : Spread) (a sums : ℕ) (ks : List ℕ) → judged c a sums ks [] ≡ false
unfolding walk
judged-short c a sums [] = refl
judged-short c a sums (k ∷ ks) = refl

-- ---- finishing: w is the word so far, of which `place` bits are written, and ks are the bits to come

abbrev pub finishing : Spread → List Bool → List Bool → ℕ → List ℕ → List Bool
finishing c p w place ks = take place w ++ map (whole c p) ks

pub finishing-start : (c : Spread) (p w : List Bool) (ks : List ℕ) → ks ≡ order c (length p) → finishing c p w 0 ks ≡ interleaved c p
unfolding interleaved
finishing-start c p w ks e = ap (map (whole c p)) e

-- there is room for the next bit
pub finishing-inside : (c : Spread) (p w : List Bool) (place k : ℕ) (ks : List ℕ) → length p ≤ longest c → length w ≡ length p + width c
    → finishing c p w place (k ∷ ks) ≡ interleaved c p → place < length w
finishing-inside c p w place k ks h lw inv =
    let g = whole c p in
    let n : length (take place w) + suc (length (map g ks)) ≡ length p + width c =
    sym (length-append (take place w) (g k ∷ map g ks)) ∙ ap length inv ∙ length-interleaved c p h in
    let t = length-take place w in
    omega arith

pub finishing-next : (c : Spread) (p w v : List Bool) (place k : ℕ) (ks : List ℕ) (r : Bool) → place < length w
    → r ≡ whole c p k → v ≡ set w place r → finishing c p w place (k ∷ ks) ≡ interleaved c p
    → finishing c p v (place + 1) ks ≡ interleaved c p
finishing-next c p w v place k ks r inside hr hv inv =
    let g = whole c p in
    ap (λ x. take (place + 1) x ++ map g ks) hv ∙ ap (λ x. x ++ map g ks) (take_more_set w place r inside)
    ∙ append_assoc (take place w) (r ∷ []) (map g ks) ∙ ap (λ x. take place w ++ x ∷ map g ks) hr ∙ inv

pub finishing-done : (c : Spread) (p w : List Bool) (place : ℕ) → length p ≤ longest c → length w ≡ length p + width c
    → finishing c p w place [] ≡ interleaved c p → w ≡ interleaved c p
finishing-done c p w place h lw inv =
    let e : take place w ≡ interleaved c p = sym (append-nil (take place w)) ∙ inv in
    let n = ap length e in
    let m = length-interleaved c p h in
    let t = length-take place w in
    sym (take_all place w (omega arith)) ∙ e

-- ---- reading: the word w goes to the indices ks of out

pub reading-start : (c : Spread) (a : ℕ) (ks : List ℕ) (w out : List Bool) → a ≤ longest c → length w ≡ a + width c → length out ≡ a
    → ks ≡ order c a → scattered ks w out ≡ deinterleaved c a w
unfolding deinterleaved
reading-start c a ks w out h lw lo e =
    let g : ℕ → Bool = λ k. get_or w (place_of k (order c a)) false in
    let lk : length (order c a) ≡ a + width c = order-long c a h in
    let back : w ≡ map g (order c a) = gathered w (order c a) (omega arith) (λ m l. order-each c a m h l) in
    ap (λ l. scattered l w out) e
    ∙ fill_by_all g (scattered (order c a) w out) a false (length-scattered (order c a) w out ∙ lo)
    (λ i l. let o : occurrences i (order c a) ≡ 1 = order-once c a i h (omega arith) in
    ap (λ v. get_or (scattered (order c a) v out) i false) back ∙ scattered-at g (order c a) out i (omega arith) (omega arith))

pub reading-next : (k : ℕ) (ks : List ℕ) (v : Bool) (w out new : List Bool) → new ≡ set out k v → scattered ks w new ≡ scattered (k ∷ ks) (v ∷ w) out
unfolding scattered
reading-next k ks v w out new e = ap (scattered ks w) e

pub reading-bare : (w out : List Bool) → scattered [] w out ≡ out
unfolding scattered
reading-bare w out = refl

pub reading-short : (ks : List ℕ) (out : List Bool) → scattered ks [] out ≡ out
unfolding scattered
reading-short [] out = refl
reading-short (k ∷ ks) out = refl
