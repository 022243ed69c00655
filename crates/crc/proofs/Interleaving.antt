-- The laws of the spread check. Assumes nothing.
use Rattle.std.proofs.Common.{◌≡◌, ℕ, ◌+◌, ◌-◌, ◌<◌, ◌≤◌, Bool, true, false, ◌&&◌, ltb, leb, List, [], ◌∷◌, ◌++◌, map, length, get_or, take, replicate, sym, refl, ap, ◌∙◌, ap₂, ⊎_elim, arith}
use mathlib.Core.Bool.{xor}
use Rattle.base.specs.Counts.{xor_below}
use Rattle.std.proofs.lemmas.Bool.{le-leb, lt-leb, cases_lt, and_from, not_from_false}
use Rattle.std.proofs.lemmas.List.{ext_get_or, length-map, get_or-map, get_or_append_left, get_or-append_right}
use Rattle.std.proofs.lemmas.List.FromFn.{get_or-map-range_with_len, length-map-range_with_len, fill_by_all}
use Rattle.std.proofs.lemmas.Bool.Decides.{nat_tests}
use Rattle.crc.specs.Division.{remainder}
use Rattle.crc.specs.Spread.{width, longest, divisor, single, rows, enters, struck, order, interleaved, place_of, deinterleaved, sum_into, some_bit, enters_at, disagrees, broken, sound}
use Rattle.crc.specs.declared.spread.Spread.{Spread}
use Rattle.crc.proofs.Fitting.{fitting-from}
use Rattle.base.proofs.Transform.{xor-false-l, xor-below-same}
use Rattle.crc.proofs.Xors.{xor_same, xor-equal}
use Rattle.crc.proofs.Linear.{lone, remainder-sum, remainder-zeros}
use Rattle.crc.proofs.Occurrences.{occurrences, inside, occurrences-struck, length-struck, inside-struck, inside-at, place_at, get_or-place, gathered}
use Rattle.crc.proofs.Walks.{walk, settled, walk-some, walk-take, some_same, settled-struck}
use Rattle.crc.proofs.Tables.{places, placed-places, places-once, places-long, places-inside, places-settled, enters_longest}
use Rattle.crc.proofs.Gathers.{sum_below, some-map, some_at}

pub order-struck : (c : Spread) (a : ℕ) → order c a ≡ struck (longest c - a) (places c)
unfolding order
order-struck c a = ap (struck (longest c - a)) (placed-places c)

pub order-once : (c : Spread) (a k : ℕ) → a ≤ longest c → k < a + width c → occurrences k (order c a) ≡ 1
order-once c a k h l =
    ap (occurrences k) (order-struck c a) ∙ occurrences-struck k (longest c - a) (places c)
    ∙ places-once c (k + (longest c - a)) (omega arith)

pub order-long : (c : Spread) (a : ℕ) → a ≤ longest c → length (order c a) ≡ a + width c
order-long c a h =
    let e : length (order c a) ≡ length (struck (longest c - a) (places c)) = ap length (order-struck c a) in
    let s = length-struck (longest c - a) (places c) (λ k l. places-once c k (omega arith)) in
    let p = places-long c in omega arith

pub order-each : (c : Spread) (a m : ℕ) → a ≤ longest c → m < length (order c a) → occurrences (get_or (order c a) m 0) (order c a) ≡ 1
order-each c a m h l =
    let n : longest c + width c - (longest c - a) ≡ a + width c = omega arith in
    let i : inside (a + width c) (order c a) ≡ true =
    ap₂ inside (sym n) (order-struck c a) ∙ inside-struck (longest c + width c) (longest c - a) (places c) (places-inside c) in
    order-once c a (get_or (order c a) m 0) h (inside-at (a + width c) (order c a) m i l)

enters-beyond : (c : Spread) (a j i : ℕ) → a ≤ i → enters_at c a j i ≡ false
unfolding enters_at
enters-beyond c a j i h = grind (arith, nat_tests)

same-below : (k s a h : ℕ) → s ≤ k → s + a ≡ h → ltb (k - s) a ≡ ltb k h
same-below k s a h l e = grind (arith, nat_tests)

pub enters-struck : (c : Spread) (a j k : ℕ) → a ≤ longest c → longest c - a ≤ k
    → enters_at c a j (k - (longest c - a)) ≡ enters_longest c (rows c) j k
unfolding enters_at
enters-struck c a j k h l =
    let e : longest c - a + (k - (longest c - a)) ≡ k = omega arith in
    grind (arith, nat_tests, e)

order-settled : (c : Spread) (a : ℕ) → a ≤ longest c → settled a (enters_at c a) (order c a) ≡ true
order-settled c a h =
    ap (settled a (enters_at c a)) (order-struck c a)
    ∙ settled-struck (longest c - a) a (longest c) (enters_longest c (rows c)) (enters_at c a) (places c) (omega arith)
    (λ j k l. enters-struck c a j k h l) (places-settled c)

-- the definition's test is the walk from no sums
pub broken-walk : (c : Spread) (a : ℕ) (b : List Bool) → a ≤ longest c
    → broken c a b ≡ walk a (enters_at c a) (λ _. false) (order c a) b
unfolding broken disagrees
broken-walk c a b h =
    ap (λ t. t && some_bit (disagrees c a b) (order c a) b) (le-leb a (longest c) h)
    ∙ some_same (disagrees c a b) (λ k v. leb a k && xor v (xor false (sum_into (enters_at c a (k - a)) (order c a) b))) (order c a) b
    (λ k v. ap (λ x. leb a k && xor v x) (sym (xor-false-l (sum_into (enters_at c a (k - a)) (order c a) b))))
    ∙ sym (walk-some a (enters_at c a) (λ _. false) (order c a) b (λ j i. enters-beyond c a j i) (order-settled c a h))

-- a row is the remainder of a one that as many bits follow
pub row-lone : (c : Spread) (a i j : ℕ) → a ≤ longest c → i < a
    → enters (rows c) (longest c - a + i) j ≡ get_or (lone (divisor c) (a - 1 - i)) j false
unfolding enters rows
row-lone c a i j h l =
    let k : ℕ = longest c - a + i in
    let n : longest c - 1 - k ≡ a - 1 - i = omega arith in
    ap (λ r. get_or r j false)
    (get_or-map-range_with_len (λ i. remainder (divisor c) (single (longest c) i)) 0 (longest c) k k [] (omega arith) (omega arith)
    ∙ remainder-zeros (divisor c) (true ∷ replicate (longest c - 1 - k) false) k ∙ ap (lone (divisor c)) n)

-- each check bit is the sum of the payload bits that enter it
pub checks-sum : (c : Spread) (p : List Bool) (j : ℕ) → length p ≤ longest c
    → get_or (remainder (divisor c) p) j false
    ≡ xor_below (λ i. enters (rows c) (longest c - length p + i) j && get_or p i false) (length p)
checks-sum c p j h =
    remainder-sum (divisor c) p j
    ∙ xor-below-same (λ i. get_or (lone (divisor c) (length p - 1 - i)) j false && get_or p i false)
    (λ i. enters (rows c) (longest c - length p + i) j && get_or p i false) (length p)
    (λ i l. ap (λ x. x && get_or p i false) (sym (row-lone c (length p) i j h l)))

-- the bits of payload and check bits, by index
abbrev pub whole : Spread → List Bool → ℕ → Bool
whole c p k = get_or (p ++ remainder (divisor c) p) k false

pub whole-check : (c : Spread) (p : List Bool) (k : ℕ) → length p ≤ k → whole c p k ≡ get_or (remainder (divisor c) p) (k - length p) false
whole-check c p k h = get_or-append_right p (remainder (divisor c) p) (length p) k false refl h

pub whole-payload : (c : Spread) (p : List Bool) (k : ℕ) → k < length p → whole c p k ≡ get_or p k false
whole-payload c p k h = get_or_append_left p (remainder (divisor c) p) false k h

-- a word that was gathered from g sums to the check bits of the payload that g is below a
gathered-sum : (c : Spread) (a j : ℕ) (p : List Bool) (g : ℕ → Bool) → length p ≡ a → a ≤ longest c
    → ((i : ℕ) → i < a → get_or p i false ≡ g i)
    → sum_into (enters_at c a j) (order c a) (map g (order c a)) ≡ get_or (remainder (divisor c) p) j false
unfolding enters_at
gathered-sum c a j p g e h w =
    let q : length p ≤ longest c = omega arith in
    sum_below (λ i. enters (rows c) (longest c - a + i) j) g (order c a) a (λ k l. order-once c a k h (omega arith))
    ∙ xor-below-same (λ i. enters (rows c) (longest c - a + i) j && g i) (λ i. enters (rows c) (longest c - a + i) j && get_or p i false) a
    (λ i l. ap (λ x. enters (rows c) (longest c - a + i) j && x) (sym (w i l)))
    ∙ ap (λ n. xor_below (λ i. enters (rows c) (longest c - n + i) j && get_or p i false) n) (sym e)
    ∙ sym (checks-sum c p j q)

pub interleaved-unbroken : (c : Spread) (p : List Bool) → length p ≤ longest c → broken c (length p) (interleaved c p) ≡ false
unfolding broken disagrees interleaved
interleaved-unbroken c p h =
    let a = length p in
    let w : List Bool = map (whole c p) (order c a) in
    ap (λ t. t && some_bit (disagrees c a w) (order c a) w) (le-leb a (longest c) h)
    ∙ some-map (disagrees c a w) (whole c p) (order c a)
    (λ k. ⊎_elim
    (λ l. ap (λ t. t && xor (whole c p k) (sum_into (enters_at c a (k - a)) (order c a) w)) (lt-leb a k l))
    (λ g. ap (λ t. t && xor (whole c p k) (sum_into (enters_at c a (k - a)) (order c a) w)) (le-leb a k g)
    ∙ ap₂ xor (whole-check c p k g)
    (gathered-sum c a (k - a) p (whole c p) refl h (λ i l. sym (whole-payload c p i l)))
    ∙ xor_same (get_or (remainder (divisor c) p) (k - a) false))
    (cases_lt k a))

pub length-interleaved : (c : Spread) (p : List Bool) → length p ≤ longest c → length (interleaved c p) ≡ length p + width c
unfolding interleaved
length-interleaved c p h = length-map (order c (length p)) (whole c p) ∙ order-long c (length p) h

pub interleaved-sound : (c : Spread) (p : List Bool) → length p ≤ longest c → sound c (length p) (interleaved c p) ≡ true
unfolding sound
interleaved-sound c p h =
    and_from _ _ (fitting-from (longest c) (width c) (length p) _ h (length-interleaved c p h)) (not_from_false _ (interleaved-unbroken c p h))

pub interleaved-reads-back : (c : Spread) (p : List Bool) → length p ≤ longest c → deinterleaved c (length p) (interleaved c p) ≡ p
unfolding deinterleaved interleaved
interleaved-reads-back c p h =
    let a = length p in
    sym (fill_by_all (λ i. get_or (map (whole c p) (order c a)) (place_of i (order c a)) false) p a false refl
    (λ i l. let o : occurrences i (order c a) ≡ 1 = order-once c a i h (omega arith) in
    sym (get_or-place (whole c p) (order c a) i (omega arith) ∙ whole-payload c p i l)))

pub sound-parts : (c : Spread) (a : ℕ) (w : List Bool) → sound c a w ≡ true
    → (a ≤ longest c) × (length w ≡ a + width c) × (broken c a w ≡ false)
unfolding sound
sound-parts c a w h = grind (arith, nat_tests)

pub sound-hopeful : (c : Spread) (a : ℕ) (w : List Bool) (m : ℕ) → sound c a w ≡ true → broken c a (take m w) ≡ false
sound-hopeful c a w m h =
    let p = sound-parts c a w h in
    broken-walk c a (take m w) p.0
    ∙ walk-take a (enters_at c a) (λ _. false) (order c a) w m (sym (broken-walk c a w p.0) ∙ p.2)

pub length-deinterleaved : (c : Spread) (a : ℕ) (w : List Bool) → length (deinterleaved c a w) ≡ a
unfolding deinterleaved
length-deinterleaved c a w = length-map-range_with_len (λ i. get_or w (place_of i (order c a)) false) 0 a

get_or-deinterleaved : (c : Spread) (a : ℕ) (w : List Bool) (i : ℕ) → i < a
    → get_or (deinterleaved c a w) i false ≡ get_or w (place_of i (order c a)) false
unfolding deinterleaved
get_or-deinterleaved c a w i l = get_or-map-range_with_len (λ i. get_or w (place_of i (order c a)) false) 0 a i i false l (omega arith)

-- one bit of a sound word is that of its payload finished again
sound-bit : (c : Spread) (a : ℕ) (w p : List Bool) (m : ℕ) → a ≤ longest c → length w ≡ a + width c → broken c a w ≡ false
    → p ≡ deinterleaved c a w → m < length (order c a) → whole c p (get_or (order c a) m 0) ≡ get_or w m false
unfolding broken disagrees
sound-bit c a w p m h lw nb e l =
    let ks = order c a in
    let k = get_or ks m 0 in
    let g : ℕ → Bool = λ k. get_or w (place_of k ks) false in
    let lk = order-long c a h in
    let lp : length p ≡ a = ap length e ∙ length-deinterleaved c a w in
    let here : g k ≡ get_or w m false = ap (λ n. get_or w n false) (place_at ks m l (order-each c a m h l)) in
    let pays : (i : ℕ) → i < a → get_or p i false ≡ g i = λ i b. ap (λ x. get_or x i false) e ∙ get_or-deinterleaved c a w i b in
    let back : w ≡ map g ks = gathered w ks (omega arith) (λ m l. order-each c a m h l) in
    ⊎_elim
    (λ b. let b' : k < length p = omega arith in whole-payload c p k b' ∙ pays k b ∙ here)
    (λ b. let b' : length p ≤ k = omega arith in
    let t : some_bit (disagrees c a w) ks w ≡ false = sym (ap (λ t. t && some_bit (disagrees c a w) ks w) (le-leb a (longest c) h)) ∙ nb in
    let u : xor (get_or w m false) (sum_into (enters_at c a (k - a)) ks w) ≡ false =
    sym (ap (λ t. t && xor (get_or w m false) (sum_into (enters_at c a (k - a)) ks w)) (le-leb a k b))
    ∙ some_at (disagrees c a w) ks w m t l (omega arith) in
    whole-check c p k b' ∙ ap (λ n. get_or (remainder (divisor c) p) (k - n) false) lp
    ∙ sym (gathered-sum c a (k - a) p g lp h pays)
    ∙ ap (sum_into (enters_at c a (k - a)) ks) (sym back)
    ∙ sym (xor-equal (get_or w m false) (sum_into (enters_at c a (k - a)) ks w) u))
    (cases_lt k a)

pub sound-interleaved : (c : Spread) (a : ℕ) (w : List Bool) → sound c a w ≡ true → interleaved c (deinterleaved c a w) ≡ w
unfolding interleaved
sound-interleaved c a w h =
    let s = sound-parts c a w h in
    let p = deinterleaved c a w in
    let ks = order c a in
    let lk = order-long c a s.0 in
    ap (λ n. map (whole c p) (order c n)) (length-deinterleaved c a w)
    ∙ ext_get_or false (map (whole c p) ks) w (length-map ks (whole c p) ∙ lk ∙ sym s.1)
    (λ m l. let l' : m < length ks = omega (arith, length-map ks (whole c p)) in
    get_or-map (whole c p) ks m 0 false l' ∙ sound-bit c a w p m s.0 s.1 s.2 refl l')

pub unbroken-beyond : (c : Spread) (a : ℕ) (b : List Bool) → longest c < a → broken c a b ≡ false
unfolding broken
unbroken-beyond c a b h = grind (arith, nat_tests)
