-- The polar transform as a subset sum: code bit i is the sum modulo 2 of u at all j with i AND j equal to i.
-- A block of 2 ^ n bits is a function of the index beside its n. Assumes nothing.
use Rattle.std.specs.Prelude.{ℕ, ◌^◌, Bool, ◌&&◌, ◌==◌, bit_and}
use Rattle.base.specs.Counts.{xor_below}

-- every binary one of i is one of j
abbrev pub within : ℕ → ℕ → Bool
within i j = bit_and i j == i

abbrev pub code_bit : ℕ → (ℕ → Bool) → ℕ → Bool
code_bit n u i = xor_below (λ j. within i j && u j) (2 ^ n)
