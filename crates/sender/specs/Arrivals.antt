-- How sent bits arrive: a value of one magnitude for each, with its sign. Assumes nothing.
use Rattle.std.specs.Prelude.{ℕ, zero, suc, ◌-◌, ◌/◌, ◌%◌, Bool, cond, not, List, [], ◌∷◌, ◌++◌, length, ℤ, pos, negsuc, ◌==◌, nat_eq, slice_index}
use Rattle.base.specs.Counts.{any_below}

-- the value of a bit at a magnitude above 0: above 0 for a 0, below 0 for a 1
abbrev pub value_of : (magnitude : ℕ) → Bool → ℤ
value_of magnitude one = cond one (negsuc (magnitude - 1)) (pos magnitude)

-- a value in two's complement of 16 bits
abbrev pub twos : ℤ → ℕ
twos (pos n) = n
twos (negsuc n) = 65535 - n

-- a number of 16 bits in two bytes, highest first
abbrev pub two_bytes : ℕ → List ℕ
two_bytes x = (x / 256 % 256) ∷ (x % 256) ∷ []

-- sent bit k is among those whose sign is turned on the way
abbrev pub flipped : List ℕ → ℕ → Bool
flipped flips k = any_below (λ j. nat_eq (slice_index flips j) k) (length flips)

-- sent bit k, once it is turned or left alone
abbrev pub turned : (flips : List ℕ) → ℕ → Bool → Bool
turned flips k bit = cond (flipped flips k) (not bit) bit

-- sent bit k as it arrives
abbrev pub arriving : (flips bits : List ℕ) → ℕ → Bool
arriving flips bits k = turned flips k (slice_index bits k == 1)

-- the bytes of the first n received values
unfoldable pub value_bytes : (magnitude : ℕ) (ones : ℕ → Bool) → ℕ → List ℕ
value_bytes magnitude ones zero = []
value_bytes magnitude ones (suc n) = value_bytes magnitude ones n ++ two_bytes (twos (value_of magnitude (ones n)))
