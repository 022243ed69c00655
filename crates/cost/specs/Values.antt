-- Soft values: what a bit contradicts in one, and the two maps by which a pair of them becomes one. Assumes nothing.
use Rattle.std.specs.Prelude.{ℕ, suc, min, Bool, true, false, ℤ, pos, negsuc, ◌+ℤ◌, ◌-ℤ◌, neg_ℤ}

-- by how much bit b contradicts the soft value v, which is positive for bit 0: |v| or nothing
abbrev pub contradicts : ℤ → Bool → ℕ
contradicts (pos a) true = a
contradicts (pos a) false = 0
contradicts (negsuc a) true = 0
contradicts (negsuc a) false = suc a

-- the smaller magnitude with the product of the signs, 0 if either is 0
abbrev pub f : ℤ → ℤ → ℤ
f (pos a) (pos b) = pos (min a b)
f (pos a) (negsuc b) = neg_ℤ (pos (min a (suc b)))
f (negsuc a) (pos b) = neg_ℤ (pos (min (suc a) b))
f (negsuc a) (negsuc b) = pos (min (suc a) (suc b))

abbrev pub g : ℤ → ℤ → Bool → ℤ
g a b false = b +ℤ a
g a b true = b -ℤ a
