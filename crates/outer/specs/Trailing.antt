-- The trailing check: the payload followed by the remainder of payload × D^l. Assumes nothing.
use Rattle.std.specs.Prelude.{ℕ, Bool, ◌&&◌, List, [], ◌∷◌, ◌++◌, take, nat_le}
use Rattle.crc.specs.Division.{coefficients, remainder, same_bits}
use Rattle.outer.specs.declared.trailing.Trailing.{Trailing}
use Rattle.outer.specs.declared.trailing.Trailing.TheVariants.{Six, Eleven}

abbrev pub width : Trailing → ℕ
width Six = 6
width Eleven = 11

-- the powers of the divisor
abbrev pub powers : Trailing → List ℕ
powers Six = 6 ∷ 5 ∷ 0 ∷ []
powers Eleven = 11 ∷ 10 ∷ 9 ∷ 5 ∷ 0 ∷ []

abbrev pub divisor : Trailing → List Bool
divisor c = coefficients (powers c) (width c)

unfoldable pub followed : Trailing → List Bool → List Bool
followed c payload = payload ++ remainder (divisor c) payload

unfoldable pub sound : Trailing → ℕ → List Bool → Bool
sound c a word = nat_le a 512 && same_bits word (followed c (take a word))
