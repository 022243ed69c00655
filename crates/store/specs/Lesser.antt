-- The lesser of two numbers that may be absent, and what it is for a floor to bar a number. Assumes nothing.
use Rattle.std.specs.Prelude.{ℕ, ◌≤◌, min, Some, None, Option}

abbrev pub lesser_of : Option ℕ → Option ℕ → Option ℕ
lesser_of None b = b
lesser_of (Some a) None = Some a
lesser_of (Some a) (Some b) = Some (min a b)

-- the floor is there, and m is not below it
abbrev pub Bars : Option ℕ → ℕ → Type 0
Bars None m = ⊥
Bars (Some f) m = f ≤ m
