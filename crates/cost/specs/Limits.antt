-- Which slices are the soft values of a block: 2 ^ n of them with n at most 10, each within ±1,048,576. Assumes nothing.
use Rattle.std.specs.Prelude.{ℕ, ◌^◌, Bool, ◌&&◌, List, length, ℤ, Option, ◌==◌, nat_le, nat_lt, is_none, position, unsigned_abs}

abbrev pub is_beyond : ℤ → Bool
is_beyond v = nat_lt 1048576 (unsigned_abs v)

-- the place of the first value that is out of range, if any is
abbrev pub first_beyond : List ℤ → Option ℕ
first_beyond llrs = position is_beyond llrs

abbrev pub is_loadable : ℕ → List ℤ → Bool
is_loadable n llrs = nat_le n 10 && (length llrs == 2 ^ n && is_none (first_beyond llrs))
