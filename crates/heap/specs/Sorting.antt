-- The elements of a list in order, by any test of which comes before which. Assumes nothing.
use Rattle.std.specs.Prelude.{Bool, List, [], ◌∷◌}
use Rattle.store.specs.Ordered.{inserted}

unfoldable pub sorted : {X : Type 0} → (X → X → Bool) → List X → List X
sorted before [] = []
sorted before (x ∷ xs) = inserted before (sorted before xs) x
