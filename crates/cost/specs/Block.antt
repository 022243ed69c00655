-- The soft values that a block holds. Assumes nothing.
use Rattle.std.specs.Prelude.{ℕ, ℤ, pos, slice_index_or}
use Rattle.cost.specs.declared.soft.Soft.{Soft}

-- a block has 2 ^ n values
abbrev pub size_of : Soft → ℕ
size_of block = block.n

abbrev pub llr_of : Soft → ℕ → ℤ
llr_of block k = slice_index_or block.values k (pos 0)
