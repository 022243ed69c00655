-- Which lengths of payload and word belong together under a check. Assumes nothing.
use Rattle.std.specs.Prelude.{ℕ, ◌+◌, Bool, ◌&&◌, ◌==◌, nat_le}

-- a payload of a bits, no longer than the longest, and a word of k bits, of which the check adds l
abbrev pub fitting : ℕ → ℕ → ℕ → ℕ → Bool
fitting longest l a k = nat_le a longest && k == a + l
