-- The shape of a binary heap: the places k have their parents at (k - 1) / 2, and no candidate comes before its parent.
-- Assumes nothing.
use Rattle.std.specs.Prelude.{◌≡◌, ℕ, ◌-◌, ◌/◌, ◌<◌, ◌≤◌, false, List, length, ◌≢◌, slice_index_or}
use Rattle.store.specs.declared.candidate.Candidate.{Candidate}
use Rattle.store.specs.Order.{before}

abbrev pub at : List Candidate → ℕ → Candidate
at slots k = slice_index_or slots k (record { metric = 0; length = 0; serial = 0; row = 0 })

abbrev pub parent : ℕ → ℕ
parent k = (k - 1) / 2

-- the candidate at k does not come before the one at j
abbrev pub NotBefore : List Candidate → ℕ → ℕ → Type 0
NotBefore slots k j = before (at slots k) (at slots j) ≡ false

-- the first n slots are a heap
abbrev pub Heaped : List Candidate → ℕ → Type 0
Heaped slots n = (k : ℕ) → 0 < k → k < n → NotBefore slots k (parent k)

-- no child of the place p comes before the parent of p
abbrev pub Bridged : List Candidate → ℕ → ℕ → Type 0
Bridged slots n p = (k : ℕ) → 0 < k → k < n → parent k ≡ p → 0 < p → NotBefore slots k (parent p)

-- a heap but for the place p, which may come before its parent
pub record Rising (slots : List Candidate) (n p : ℕ) : Type 0 where
  pub heaped : (k : ℕ) → 0 < k → k < n → (k ≢ p) → NotBefore slots k (parent k)
  pub bridged : Bridged slots n p

-- a heap but for the place p, which its children may come before
pub record Sinking (slots : List Candidate) (n p : ℕ) : Type 0 where
  pub heaped : (k : ℕ) → 0 < k → k < n → (parent k ≢ p) → NotBefore slots k (parent k)
  pub bridged : Bridged slots n p

-- the candidate at the place r, from start on, comes before none of those from there on
pub record Last (slots : List Candidate) (start r : ℕ) : Type 0 where
  pub within : r < length slots
  pub last : (k : ℕ) → start ≤ k → k < length slots → NotBefore slots r k

-- the place j is that of a child of p, and no child of p comes before it
pub record Child (slots : List Candidate) (n p j : ℕ) : Type 0 where
  pub above : 0 < j
  pub within : j < n
  pub below : parent j ≡ p
  pub first : (k : ℕ) → 0 < k → k < n → parent k ≡ p → NotBefore slots k j
