-- Lists in order, by any test of which element comes before which. Assumes nothing.
use Rattle.std.specs.Prelude.{Bool, true, cond, not, ◌&&◌, List, [], ◌∷◌}

-- the list with the newcomer in its place
unfoldable pub inserted : {X : Type 0} → (X → X → Bool) → List X → X → List X
inserted before [] c = c ∷ []
inserted before (x ∷ xs) c = cond (before x c) (x ∷ inserted before xs c) (c ∷ x ∷ xs)

-- no element comes before x
unfoldable pub none_before : {X : Type 0} → (X → X → Bool) → X → List X → Bool
none_before before x [] = true
none_before before x (y ∷ ys) = not (before y x) && none_before before x ys

-- no element comes before one that stands ahead of it
unfoldable pub in_order : {X : Type 0} → (X → X → Bool) → List X → Bool
in_order before [] = true
in_order before (x ∷ xs) = none_before before x xs && in_order before xs
