-- A single bit of a number. Assumes nothing.
use Rattle.std.specs.Prelude.{ℕ, ◌/◌, ◌%◌, ◌^◌, Bool, ◌==◌}

-- bit k of x, from the lowest
unfoldable pub bit_of : ℕ → ℕ → Bool
bit_of x k = x / 2 ^ k % 2 == 1
