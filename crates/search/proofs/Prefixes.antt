-- Beginnings of paths as a test, and the children of a path. Assumes nothing.
use Rattle.std.proofs.Common.{◌≡◌, ℕ, ◌+◌, ◌≤◌, Bool, true, false, cond, not, ◌&&◌, List, [], ◌∷◌, ◌++◌, refl, ap, ◌∙◌, subst, inl, inr, arith}
use mathlib.Core.Path.{fun_ext}
use mathlib.Core.Bool.{beq, false≢true}
use Rattle.search.specs.Lists.{count, Among}
use Rattle.search.proofs.Lists.{count_none}
use Rattle.search.specs.Paths.{Kind, frozen, information, parity, choices, fitting, child}

abbrev pub is_prefix : List Bool → List Bool → Bool
is_prefix [] w = true
is_prefix (a ∷ p) [] = false
is_prefix (a ∷ p) (b ∷ w) = beq a b && is_prefix p w

abbrev pub same : List Bool → List Bool → Bool
same [] [] = true
same [] (b ∷ w) = false
same (a ∷ p) [] = false
same (a ∷ p) (b ∷ w) = beq a b && same p w

abbrev pub times : List Bool → List (List Bool) → ℕ
times w ws = count (same w) ws

-- how many of the bits lead from the path to a beginning of w
abbrev pub leading : List Bool → List Bool → List Bool → ℕ
leading p w us = count (λ u. is_prefix (child p u) w) us

pub same_refl : (w : List Bool) → same w w ≡ true
same_refl [] = refl
same_refl (true ∷ w) = same_refl w
same_refl (false ∷ w) = same_refl w

pub same-is : (v w : List Bool) → same v w ≡ true → v ≡ w
same-is [] [] e = refl
same-is [] (b ∷ w) e = absurd (false≢true e)
same-is (a ∷ v) [] e = absurd (false≢true e)
same-is (true ∷ v) (true ∷ w) e = ap {B = List Bool} (λ x. true ∷ x) (same-is v w e)
same-is (true ∷ v) (false ∷ w) e = absurd (false≢true e)
same-is (false ∷ v) (true ∷ w) e = absurd (false≢true e)
same-is (false ∷ v) (false ∷ w) e = ap {B = List Bool} (λ x. false ∷ x) (same-is v w e)

pub prefix-append : (p r : List Bool) → is_prefix p (p ++ r) ≡ true
prefix-append [] r = refl
prefix-append (true ∷ p) r = prefix-append p r
prefix-append (false ∷ p) r = prefix-append p r

pub prefix-split : (p w : List Bool) → is_prefix p w ≡ true → (r : List Bool) × (w ≡ p ++ r)
prefix-split [] w e = (w, refl)
prefix-split (a ∷ p) [] e = absurd (false≢true e)
prefix-split (true ∷ p) (true ∷ w) e = let (r, h) = prefix-split p w e in (r, ap {B = List Bool} (λ x. true ∷ x) h)
prefix-split (true ∷ p) (false ∷ w) e = absurd (false≢true e)
prefix-split (false ∷ p) (true ∷ w) e = absurd (false≢true e)
prefix-split (false ∷ p) (false ∷ w) e = let (r, h) = prefix-split p w e in (r, ap {B = List Bool} (λ x. false ∷ x) h)

one_choice : (k : Kind) (s b : Bool) → count (λ u. beq u b && true) (choices k s) ≤ 1
one_choice frozen s true = omega arith
one_choice frozen s false = omega arith
one_choice information s true = omega arith
one_choice information s false = omega arith
one_choice parity true true = omega arith
one_choice parity true false = omega arith
one_choice parity false true = omega arith
one_choice parity false false = omega arith

-- a word extends one child at most, and none if it is the path itself
pub children-once : (k : Kind) (s : Bool) (p w : List Bool) → leading p w (choices k s) + cond (same w p) 1 0 ≤ cond (is_prefix p w) 1 0
children-once k s [] [] = let h = count_none (λ u. is_prefix (child [] u) []) (choices k s) (λ u m. refl) in omega arith
children-once k s [] (b ∷ w) = let h = one_choice k s b in omega arith
children-once k s (a ∷ p) [] = let h = count_none (λ u. is_prefix (child (a ∷ p) u) []) (choices k s) (λ u m. refl) in omega arith
children-once k s (true ∷ p) (true ∷ w) = children-once k s p w
children-once k s (false ∷ p) (false ∷ w) = children-once k s p w
children-once k s (true ∷ p) (false ∷ w) = let h = count_none (λ u. is_prefix (child (true ∷ p) u) (false ∷ w)) (choices k s) (λ u m. refl) in omega arith
children-once k s (false ∷ p) (true ∷ w) = let h = count_none (λ u. is_prefix (child (false ∷ p) u) (true ∷ w)) (choices k s) (λ u m. refl) in omega arith

-- a bit that fits is a choice
a-choice : (k : Kind) (s b : Bool) → fitting k s b ≡ true → 1 ≤ count (λ u. beq u b && true) (choices k s)
a-choice frozen s true e = absurd (false≢true e)
a-choice frozen s false e = omega arith
a-choice information s true e = omega arith
a-choice information s false e = omega arith
a-choice parity true true e = omega arith
a-choice parity true false e = absurd (false≢true e)
a-choice parity false true e = absurd (false≢true e)
a-choice parity false false e = omega arith

-- a word that goes on from a path with a bit that fits extends a child
pub children-cover : (k : Kind) (s : Bool) (p : List Bool) (b : Bool) (r : List Bool) → fitting k s b ≡ true → 1 ≤ leading p (p ++ (b ∷ r)) (choices k s)
children-cover k s [] b r e = a-choice k s b e
children-cover k s (true ∷ p) b r e = children-cover k s p b r e
children-cover k s (false ∷ p) b r e = children-cover k s p b r e

and-true : (t : Bool) → (t && true) ≡ t
and-true true = refl
and-true false = refl

pub choice-once : (k : Kind) (s b : Bool) → count (λ u. beq u b) (choices k s) ≤ 1
choice-once k s b = subst (λ (f : Bool → Bool). count f (choices k s) ≤ 1) (fun_ext (λ u. and-true (beq u b))) (one_choice k s b)

pub choice-there : (k : Kind) (s b : Bool) → fitting k s b ≡ true → 1 ≤ count (λ u. beq u b) (choices k s)
choice-there k s b e = subst (λ (f : Bool → Bool). 1 ≤ count f (choices k s)) (fun_ext (λ u. and-true (beq u b))) (a-choice k s b e)

-- a choice fits
pub choice-fits : (k : Kind) (s u : Bool) → Among u (choices k s) → fitting k s u ≡ true
choice-fits frozen s u (inl e) = ap not e
choice-fits frozen s u (inr m) = absurd m
choice-fits information s u m = refl
choice-fits parity s u (inl e) = ap (λ x. beq x s) e ∙ same_bit s
  where
    same_bit : (b : Bool) → beq b b ≡ true
    same_bit true = refl
    same_bit false = refl
choice-fits parity s u (inr m) = absurd m
