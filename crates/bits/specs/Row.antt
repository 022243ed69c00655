-- What a row holds, what writing a bit or transforming a block makes of it, and where two agree. Assumes nothing.
use Rattle.std.specs.Prelude.{ℕ, ◌%◌, ◌^◌, Bool, cond, ◌&&◌, ◌==◌, nat_le, nat_lt}
use Rattle.std.specs.Bool.{beq}
use Rattle.base.specs.Counts.{all_below}
use Rattle.bits.specs.Blocks.{words_bit}
use Rattle.bits.specs.declared.row.Row.{Row}

-- bit k of the row; a row has 1,024, and beyond them it is false
unfoldable pub row_bit : Row → ℕ → Bool
row_bit row k = words_bit row.words k

-- bit j after bit k was set to b: beyond the row nothing is written
abbrev pub set_bit : (ℕ → Bool) → ℕ → Bool → ℕ → Bool
set_bit u k b j = cond (j == k && nat_lt k 1024) b (u j)

-- the 2 ^ n bits from base on are an aligned block of the row
abbrev pub is_aligned_block : ℕ → ℕ → Bool
is_aligned_block base n = nat_le n 10 && (nat_lt base 1024 && base % 2 ^ n == 0)

-- u and v have the same first n bits
abbrev pub same_bits : (u v : ℕ → Bool) → ℕ → Bool
same_bits u v n = all_below (λ k. beq (u k) (v k)) n
