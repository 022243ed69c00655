-- Whether a row is held. Assumes nothing.
use Rattle.std.proofs.Common.{◌≡◌, ℕ, ◌||◌, ◌==◌, List, [], ◌∷◌, refl, ap}
use Rattle.std.specs.List.{list_any}
use Rattle.store.specs.declared.candidate.Candidate.{Candidate}
use Rattle.store.specs.Meaning.{holds_row}

-- some candidate holds it
pub list_any-row : (row : ℕ) (xs : List Candidate) → list_any (λ x. x.row == row) xs ≡ holds_row row xs
unfolding holds_row
list_any-row row [] = refl
list_any-row row (x ∷ xs) = ap (λ b. (x.row == row) || b) (list_any-row row xs)
