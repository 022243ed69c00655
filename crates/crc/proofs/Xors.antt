-- More laws of exclusive or, and of its sum over the numbers below a bound. Assumes nothing.
use Rattle.std.proofs.Common.{◌≡◌, ℕ, zero, suc, Bool, false, ap, ◌∙◌, arith}
use mathlib.Core.Bool.{xor}
use Rattle.std.proofs.lemmas.Bool.Decides.{nat_tests}
use Rattle.base.specs.Counts.{xor_below}
use Rattle.base.proofs.Transform.{xor_assoc}

pub xor_comm : (x y : Bool) → xor x y ≡ xor y x
unfolding xor
xor_comm x y = grind (arith, nat_tests)

pub xor_same : (x : Bool) → xor x x ≡ false
unfolding xor
xor_same x = grind (arith, nat_tests)

pub xor-equal : (x y : Bool) → xor x y ≡ false → x ≡ y
unfolding xor
xor-equal x y h = grind (arith, nat_tests)

-- the first one apart
pub xor_below-first : (f : ℕ → Bool) (n : ℕ) → xor_below f (suc n) ≡ xor (f 0) (xor_below (λ i. f (suc i)) n)
unfolding xor_below
xor_below-first f zero = xor_comm false (f 0)
xor_below-first f (suc n) =
    ap (λ x. xor x (f (suc n))) (xor_below-first f n) ∙ xor_assoc (f 0) (xor_below (λ i. f (suc i)) n) (f (suc n))
