-- A block file is granted exactly where it is three sound fields, one after the other, and nothing else. Assumes nothing.
use Rattle.std.specs.Prelude.{◌≡◌, ℕ, ◌/◌, ◌%◌, ◌<◌, true, List, ◌∷◌, ◌++◌, length, None, slice_index}
use Rattle.block.specs.declared.due.Due.TheVariants.{Plan, Search, Values}
use Rattle.block.specs.Bytes.{wide}
use Rattle.block.specs.Fields.{sound}
use Rattle.block.specs.File.{file_fault}

-- a field as it is written: its tag, the length of its body in two bytes, its body
abbrev pub written : ℕ → List ℕ → List ℕ
written tag body = tag ∷ (length body / 256) ∷ (length body % 256) ∷ body

-- the file whose fields have these bodies; the second holds the limits of the search
pub record Layout (input plan limits values : List ℕ) : Type 0 where
  pub whole : input ≡ written 1 plan ++ (written 2 limits ++ written 3 values)
  pub plan-sound : sound Plan plan ≡ true
  pub limits-sound : sound Search limits ≡ true
  pub values-sound : sound (Values (wide plan 3)) values ≡ true

abbrev pub Bytes : List ℕ → Type 0
Bytes input = (k : ℕ) → slice_index input k < 256

abbrev pub GrantedFilesAreLaidOut : Type 0
GrantedFilesAreLaidOut =
    (input : List ℕ) → Bytes input → file_fault input ≡ None
    → (plan : List ℕ) × ((limits : List ℕ) × ((values : List ℕ) × Layout input plan limits values))

abbrev pub LaidOutFilesAreGranted : Type 0
LaidOutFilesAreGranted =
    (input plan limits values : List ℕ) → Layout input plan limits values → file_fault input ≡ None
