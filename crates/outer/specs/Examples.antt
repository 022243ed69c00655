-- A worked example of the trailing check, from its definition alone. Assumes nothing.
use Rattle.std.specs.Prelude.{◌≡◌, true, false, [], ◌∷◌}
use Rattle.crc.specs.Division.{remainder}
use Rattle.outer.specs.Trailing.{divisor}
use Rattle.outer.specs.declared.trailing.Trailing.TheVariants.{Six}

abbrev pub RemainderOfOne : Type 0
RemainderOfOne = remainder (divisor Six) (true ∷ []) ≡ true ∷ false ∷ false ∷ false ∷ false ∷ true ∷ []
