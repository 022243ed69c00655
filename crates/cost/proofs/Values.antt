-- Laws of the two maps on pairs of soft values and of what a bit contradicts. Assumes nothing.
use Rattle.std.proofs.Common.{◌≡◌, ℕ, ◌+◌, ◌<◌, ◌≤◌, Bool, not, ℤ, pos, nat_abs, arith}
use mathlib.Core.Bool.{xor}
use Rattle.std.proofs.lemmas.Int.{ints}
use Rattle.cost.specs.Values.{contradicts, f, g}
use Rattle.cost.specs.Laws.{PairIdentity}

pub pair-identity : PairIdentity
unfolding xor
pair-identity a b x y = grind (arith, ints)

pub contradicts-le : (v : ℤ) (b : Bool) → contradicts v b ≤ nat_abs v
contradicts-le v b = grind (arith, ints)

pub f-le : (a b : ℤ) (m : ℕ) → nat_abs a ≤ m → nat_abs b ≤ m → nat_abs (f a b) ≤ m
f-le a b m ha hb = grind (arith, ints)

pub g-le : (a b : ℤ) (x : Bool) (m : ℕ) → nat_abs a ≤ m → nat_abs b ≤ m → nat_abs (g a b x) ≤ m + m
g-le a b x m ha hb = grind (arith, ints)

-- f vanishes with its first value alone, if that vanishes with the second
pub f-zero : (a b : ℤ) → (b ≡ pos 0 → a ≡ pos 0) → f a b ≡ pos 0 → a ≡ pos 0
f-zero a b down e = grind (arith, ints)

pub zero-f : (a b : ℤ) → a ≡ pos 0 → f a b ≡ pos 0
zero-f a b e = grind (arith, ints)

-- where neither soft value is contradicted, g vanishes with its second value alone
pub g-zero : (a b : ℤ) (x y : Bool) → contradicts a (xor x y) ≡ 0 → contradicts b y ≡ 0 → g a b x ≡ pos 0 → b ≡ pos 0
unfolding xor
g-zero a b x y ca cb e = grind (arith, ints)

pub zero-g : (a b : ℤ) (x : Bool) → a ≡ pos 0 → b ≡ pos 0 → g a b x ≡ pos 0
zero-g a b x ea eb = grind (arith, ints)

-- a bit that a nonzero value does not mind is the sign; the other bit costs
pub other-costs : (v : ℤ) (b : Bool) → contradicts v b ≡ 0 → (v ≡ pos 0 → ⊥) → 0 < contradicts v (not b)
other-costs v b c nz = grind (arith, ints)

pub g-same : {a b c d : ℤ} {x y : Bool} → a ≡ c → b ≡ d → x ≡ y → g a b x ≡ g c d y
g-same p q r = λ i. g (p i) (q i) (r i)
