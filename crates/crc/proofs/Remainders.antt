-- Lengths of a long division, its steps in place, and equality of bits as a test. Assumes nothing.
use Rattle.std.proofs.Common.{◌≡◌, ℕ, zero, suc, ◌+◌, ◌-◌, ◌<◌, ◌≤◌, Bool, true, false, cond, not, List, [], ◌∷◌, ◌++◌, length, get_or, take, drop, set, replicate, Decides, sym, refl, ap, ◌∙◌, arith, length-append}
use mathlib.Core.Bool.{xor, beq}
use Rattle.std.proofs.lemmas.Bool.Decides.{nat_tests}
use lib.ListN.{length-replicate}
use borrow.Rule.Slice.PartMut.{put_mid}
use Rattle.std.proofs.lemmas.List.{take_more_set, drop_more, drop-set-lt, append_assoc, append-nil, drop_at, drop_all, length-take-le, length-drop, take_rest}
use Rattle.crc.specs.Division.{coefficients, added, divided, remainder, same_bits}

pub length-coefficients : (ps : List ℕ) (l : ℕ) → length (coefficients ps l) ≡ l
unfolding coefficients
length-coefficients ps zero = refl
length-coefficients ps (suc l) = ap suc (length-coefficients ps l)

pub length-added : (ds bs : List Bool) → length (added ds bs) ≡ length bs
unfolding added
length-added [] bs = refl
length-added (d ∷ ds) [] = refl
length-added (d ∷ ds) (b ∷ bs) = ap suc (length-added ds bs)

pub length-chosen : (ds bs : List Bool) (b : Bool) → length (cond b (added ds bs) bs) ≡ length bs
length-chosen ds bs true = length-added ds bs
length-chosen ds bs false = refl

pub length-divided : (ds : List Bool) (n : ℕ) (bs : List Bool) → n ≤ length bs → length (divided ds n bs) + n ≡ length bs
unfolding divided
length-divided ds zero bs h = omega arith
length-divided ds (suc n) [] h = omega arith
length-divided ds (suc n) (b ∷ bs) h =
    let e : length (cond b (added ds bs) bs) ≡ length bs = length-chosen ds bs b in
    let i = length-divided ds n (cond b (added ds bs) bs) (omega arith) in omega arith

pub length-remainder : (ds p : List Bool) → length (remainder ds p) ≡ length ds
length-remainder ds p =
    let e : length (p ++ replicate (length ds) false) ≡ length p + length ds =
    length-append p (replicate (length ds) false) ∙ ap (λ n. length p + n) (length-replicate (length ds) false) in
    omega (arith, length-divided ds (length p) (p ++ replicate (length ds) false) (omega arith))

pub same-itself : (xs : List Bool) → same_bits xs xs ≡ true
unfolding same_bits xor
same-itself [] = refl
same-itself (x ∷ xs) = grind (arith, nat_tests, same-itself xs)

pub same-equal : (xs ys : List Bool) → same_bits xs ys ≡ true → xs ≡ ys
unfolding same_bits xor
same-equal [] [] h = refl
same-equal [] (y ∷ ys) h = cc
same-equal (x ∷ xs) [] h = cc
same-equal (x ∷ xs) (y ∷ ys) h = grind (arith, nat_tests, same-equal xs ys)

pub same-decides : (xs ys : List Bool) → Decides (same_bits xs ys) (xs ≡ ys)
same-decides xs ys = (same-equal xs ys, λ e. rw e (same-itself ys))

-- how the code's exclusive or reads
pub unlike-xor : (x y : Bool) → not (beq x y) ≡ xor y x
unfolding xor
unlike-xor x y = grind (arith, nat_tests)

-- one turn of an addition in place
pub add_step : (ds bs : List Bool) (k : ℕ) (v : Bool) → k < length ds → k < length bs
    → v ≡ xor (get_or ds k false) (get_or bs k false)
    → take (k + 1) (set bs k v) ++ added (drop (k + 1) ds) (drop (k + 1) (set bs k v))
    ≡ take k bs ++ added (drop k ds) (drop k bs)
unfolding added
add_step ds bs k v hd hb e =
    let t : take (k + 1) (set bs k v) ≡ take k bs ++ v ∷ [] = take_more_set bs k v hb in
    let r : drop (k + 1) (set bs k v) ≡ drop (k + 1) bs = drop-set-lt (k + 1) bs k v (omega arith) in
    rw (t, r, drop_more ds k false hd, drop_more bs k false hb, append_assoc, e)

-- one turn of a division in place: bs is what stands there before, cs after
pub divide-step : (ds bs cs : List Bool) (steps i : ℕ) → i < steps → i < length bs
    → drop (i + 1) cs ≡ cond (get_or bs i false) (added ds (drop (i + 1) bs)) (drop (i + 1) bs)
    → divided ds (steps - (i + 1)) (drop (i + 1) cs) ≡ divided ds (steps - i) (drop i bs)
unfolding divided
divide-step ds bs cs steps i h hb e =
    let n : steps - i ≡ suc (steps - (i + 1)) = omega arith in
    rw (e, n, drop_more bs i false hb)

-- what stands from a on after the part s[a..] was written
pub drop-part : (xs ys : List Bool) (a : ℕ) → a ≤ length xs → drop a (put_mid a (length xs - a) xs ys) ≡ ys
drop-part xs ys a h =
    let e : drop (length xs - a) (drop a xs) ≡ [] = drop_all (length xs - a) (drop a xs) (simp length-drop (omega arith)) in
    drop_at (take a xs) (ys ++ drop (length xs - a) (drop a xs)) a (length-take-le a xs h) ∙ ap (λ l. ys ++ l) e ∙ append-nil ys

pub divide-one : (ds bs cs ys : List Bool) (steps i : ℕ) → i < steps → i < length bs → get_or bs i false ≡ true
    → cs ≡ put_mid (i + 1) (length bs - (i + 1)) bs ys → ys ≡ added ds (take (length bs - (i + 1)) (drop (i + 1) bs))
    → divided ds (steps - (i + 1)) (drop (i + 1) cs) ≡ divided ds (steps - i) (drop i bs)
divide-one ds bs cs ys steps i h hb t e f =
    divide-step ds bs cs steps i h hb
    (ap (drop (i + 1)) e ∙ drop-part bs ys (i + 1) (omega arith) ∙ f ∙ ap (added ds) (take_rest bs (i + 1))
    ∙ sym (ap (λ b. cond b (added ds (drop (i + 1) bs)) (drop (i + 1) bs)) t))

pub divide-none : (ds bs cs : List Bool) (steps i : ℕ) → i < steps → i < length bs → get_or bs i false ≡ false → cs ≡ bs
    → divided ds (steps - (i + 1)) (drop (i + 1) cs) ≡ divided ds (steps - i) (drop i bs)
divide-none ds bs cs steps i h hb t e =
    divide-step ds bs cs steps i h hb
    (ap (drop (i + 1)) e ∙ sym (ap (λ b. cond b (added ds (drop (i + 1) bs)) (drop (i + 1) bs)) t))

pub divide-all : (ds bs rs : List Bool) (steps i : ℕ) → steps ≤ i → i ≤ steps → divided ds (steps - i) (drop i bs) ≡ rs
    → drop steps bs ≡ rs
unfolding divided
divide-all ds bs rs steps i h k e =
    let i' : i ≡ steps = omega arith in
    let z : steps - i ≡ 0 = omega arith in
    sym (ap (λ n. drop n bs) i') ∙ sym (ap (λ n. divided ds n (drop i bs)) z) ∙ e
