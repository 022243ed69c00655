-- A payload followed by its remainder: the laws of the trailing check. Assumes nothing.
use Rattle.std.specs.Prelude.{◌≡◌, ℕ, ◌+◌, ◌-◌, ◌<◌, ◌≤◌, Bool, true, false, ◌&&◌, List, ◌++◌, length, take, drop, replicate, Decides, refl}
use borrow.Rule.Slice.PartMut.{post_of}
use Rattle.std.proofs.Common.{sym, ap, subst, ◌∙◌, arith, length-append, ⊎_elim}
use Rattle.std.proofs.lemmas.List.{take_at, length-take, drop-replicate}
use Rattle.std.proofs.lemmas.Bool.{and_parts, and_from, leb-true, le-leb, cases_Bool}
use Rattle.crc.specs.Division.{divided, remainder, same_bits}
use Rattle.crc.specs.Lengths.{fitting}
use Rattle.outer.specs.Trailing.{width, powers, divisor, followed, sound}
use Rattle.outer.specs.declared.trailing.Trailing.{Trailing}
use Rattle.outer.specs.declared.trailing.Trailing.TheVariants.{Six, Eleven}
use Rattle.crc.proofs.Fitting.{fitting-tells, fitting-not}
use Rattle.crc.proofs.Remainders.{length-coefficients, length-remainder, same-itself, same-equal, same-decides}
use Rattle.std.proofs.lemmas.Bool.Decides.{same_from_decides}

pub length-followed : (c : Trailing) (p : List Bool) → length (followed c p) ≡ length p + width c
unfolding followed
length-followed c p =
    length-append p (remainder (divisor c) p)
    ∙ ap (λ n. length p + n) (length-remainder (divisor c) p ∙ length-coefficients (powers c) (width c))

pub take-followed : (c : Trailing) (p : List Bool) → take (length p) (followed c p) ≡ p
unfolding followed
take-followed c p = take_at p (remainder (divisor c) p) (length p) refl

-- a buffer cleared to fs, with the payload written, divided to vs, and the payload written again
pub laid : (c : Trailing) (p fs qs vs rs ds : List Bool) (n : ℕ) → n ≡ length p + width c
    → fs ≡ replicate n false → qs ≡ p → ds ≡ divisor c
    → drop (length p) vs ≡ divided ds (length p) (qs ++ post_of 0 (length p - 0) fs) → rs ≡ p
    → rs ++ post_of 0 (length p - 0) vs ≡ followed c p
unfolding followed
laid c p fs qs vs rs ds n hn hf hq hd hv hr =
    let z : length p - 0 ≡ length p = omega arith in
    let l : length (divisor c) ≡ width c = length-coefficients (powers c) (width c) in
    let m : n - length p ≡ length (divisor c) = omega arith in
    let t : drop (length p) fs ≡ replicate (length (divisor c)) false =
    ap (drop (length p)) hf ∙ drop-replicate (length p) n false ∙ ap (λ k. replicate k false) m in
    let w : qs ++ post_of 0 (length p - 0) fs ≡ p ++ replicate (length (divisor c)) false =
    ap (λ k. qs ++ drop k fs) z ∙ ap (λ l. l ++ drop (length p) fs) hq ∙ ap (λ l. p ++ l) t in
    ap (λ k. rs ++ drop k vs) z ∙ ap (λ l. l ++ drop (length p) vs) hr
    ∙ ap (λ l. p ++ l) (hv ∙ ap (divided ds (length p)) w ∙ ap (λ d. divided d (length p) (p ++ replicate (length (divisor c)) false)) hd)

pub width_positive : (c : Trailing) → 0 < width c
width_positive Six = omega arith
width_positive Eleven = omega arith

pub followed-sound : (c : Trailing) (p : List Bool) → length p ≤ 512 → sound c (length p) (followed c p) ≡ true
unfolding sound
followed-sound c p h = rw take-followed (and_from _ _ (le-leb _ _ h) (same-itself (followed c p)))

pub sound-followed : (c : Trailing) (a : ℕ) (w : List Bool) → sound c a w ≡ true → followed c (take a w) ≡ w
unfolding sound
sound-followed c a w h = sym (same-equal w (followed c (take a w)) (and_parts _ _ h).1)

pub sound-length : (c : Trailing) (a : ℕ) (w : List Bool) → sound c a w ≡ true → (a ≤ 512) × (length w ≡ a + width c)
unfolding sound
sound-length c a w h =
    let e = ap length (sound-followed c a w h) in
    let f = length-followed c (take a w) in
    let m = length-take a w in
    let p = width_positive c in
    (leb-true _ _ (and_parts _ _ h).0, omega arith)

-- a word of another length is not sound
pub unfit-unsound : (c : Trailing) (a : ℕ) (w : List Bool) → fitting 512 (width c) a (length w) ≡ false → sound c a w ≡ false
unfit-unsound c a w h =
    ⊎_elim (λ t. let k = sound-length c a w t in absurd (fitting-not 512 (width c) a (length w) h k.0 k.1)) (λ f. f)
    (cases_Bool (sound c a w))

-- a word compared with what its payload is followed up to, from which v was made
pub repeats-same : (c : Trailing) (a : ℕ) (w v : List Bool) (r : Bool) → Decides r (w ≡ v) → v ≡ followed c (take (a - 0) w)
    → r ≡ same_bits w (followed c (take a w))
repeats-same c a w v r h e =
    let z : a - 0 ≡ a = omega arith in
    let f : v ≡ followed c (take a w) = e ∙ ap (λ n. followed c (take n w)) z in
    same_from_decides r (same_bits w (followed c (take a w))) (subst (λ x. Decides r (w ≡ x)) f h)
    (same-decides w (followed c (take a w)))

pub sound-repeats : (c : Trailing) (a : ℕ) (w : List Bool) → fitting 512 (width c) a (length w) ≡ true
    → same_bits w (followed c (take a w)) ≡ sound c a w
unfolding sound
sound-repeats c a w h =
    sym (ap (λ t. t && same_bits w (followed c (take a w))) (le-leb a 512 (fitting-tells 512 (width c) a (length w) h).0))
