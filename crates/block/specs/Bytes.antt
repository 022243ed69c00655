-- Numbers in bytes, highest byte first. Assumes nothing.
use Rattle.std.specs.Prelude.{ℕ, ◌+◌, ◌*◌, List, slice_index}

-- the number in two bytes from k on
abbrev pub wide : List ℕ → ℕ → ℕ
wide bytes k = slice_index bytes k * 256 + slice_index bytes (k + 1)

-- the number in four bytes from k on
abbrev pub long : List ℕ → ℕ → ℕ
long bytes k = wide bytes k * 65536 + wide bytes (k + 2)
