-- How what a store keeps is read as what the search keeps: a candidate's path is that in its row. Assumes nothing.
use Rattle.std.specs.Prelude.{ℕ, zero, suc, Bool, List, [], ◌∷◌, ◌++◌, map, Option}
use Rattle.store.specs.declared.candidate.Candidate.{Candidate}
use Rattle.search.specs.Stores as search

-- the first n bits
unfoldable pub first_bits : (ℕ → Bool) → ℕ → List Bool
first_bits u zero = []
first_bits u (suc n) = first_bits u n ++ (u n ∷ [])

-- paths row is the bits in a row
abbrev pub candidate_in : (paths : ℕ → ℕ → Bool) → Candidate → search.Candidate
candidate_in paths c = record {
  metric = c.metric;
  length = c.length;
  serial = c.serial;
  path = first_bits (paths c.row) c.length;
}

abbrev pub contents_in : (paths : ℕ → ℕ → Bool) (kept : List Candidate) (capacity : ℕ) (floor : Option ℕ) → search.Contents
contents_in paths kept capacity floor = record { kept = map (candidate_in paths) kept; capacity = capacity; floor = floor }
