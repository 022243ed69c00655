-- Decision values by level: level m has the 2 ^ m values of the aligned block of 2 ^ m positions in which position i stands,
-- each level made from the one above it. In a list, level m lies from place 2 ^ m on. Assumes nothing.
use Rattle.std.specs.Prelude.{◌≡◌, ℕ, suc, ◌+◌, ◌*◌, ◌/◌, ◌%◌, ◌^◌, ◌<◌, ◌≤◌, Bool, cond, List, ℤ, pos, ◌==◌, slice_index_or}
use Rattle.cost.specs.Path.{first, second, from}
use Rattle.cost.specs.Laws.{Agree}

-- where the block of 2 ^ m positions that holds i begins
abbrev pub start : ℕ → ℕ → ℕ
start m i = i / 2 ^ m * 2 ^ m

-- level m from the level above: i stands in the first half of that block or in the second
unfoldable pub halved : ℕ → (ℕ → ℤ) → (ℕ → Bool) → ℕ → ℕ → ℤ
halved m above u i k = cond (i / 2 ^ m % 2 == 0) (first m above k) (second m above (from (start (suc m) i) u) k)

abbrev pub level : List ℤ → ℕ → ℕ → ℤ
level xs m k = slice_index_or xs (2 ^ m + k) (pos 0)

-- what a rule for each place makes of the pairs at level m + 1
abbrev pub paired : ℕ → (ℕ → ℤ → ℤ → ℤ) → List ℤ → ℕ → ℤ
paired m rule xs k = rule k (level xs (suc m) k) (level xs (suc m) (2 ^ m + k))

-- the levels from low up to n are those of position i of the path u
pub record Levels (n : ℕ) (llr : ℕ → ℤ) (u : ℕ → Bool) (i low : ℕ) (xs : List ℤ) : Type 0 where
  pub top : (k : ℕ) → k < 2 ^ n → level xs n k ≡ llr k
  pub below : (m k : ℕ) → low ≤ m → m < n → k < 2 ^ m → level xs m k ≡ halved m (level xs (suc m)) u i k

-- position i of the path u and position j of the path v stand in one block of 2 ^ m, and the paths agree before it:
-- so levels m to n are the same for both
pub record Shared (m : ℕ) (u : ℕ → Bool) (i : ℕ) (v : ℕ → Bool) (j : ℕ) : Type 0 where
  pub block : i / 2 ^ m ≡ j / 2 ^ m
  pub path : Agree u v (start m i)

-- a list filled from place m on with the first n values of a block, and otherwise kept
pub record Filled (m n : ℕ) (block : ℕ → ℤ) (before after : List ℤ) : Type 0 where
  pub filled : (k : ℕ) → k < n → slice_index_or after (m + k) (pos 0) ≡ block k
  pub below : (j : ℕ) → j < m → slice_index_or after j (pos 0) ≡ slice_index_or before j (pos 0)
  pub above : (j : ℕ) → m + n ≤ j → slice_index_or after j (pos 0) ≡ slice_index_or before j (pos 0)

-- a list that is kept around levels 0 to n: before place 1, and from place 2 * 2 ^ n on
pub record KeptAround (n : ℕ) (before after : List ℤ) : Type 0 where
  pub first : slice_index_or after 0 (pos 0) ≡ slice_index_or before 0 (pos 0)
  pub rest : (j : ℕ) → 2 * 2 ^ n ≤ j → slice_index_or after j (pos 0) ≡ slice_index_or before j (pos 0)
