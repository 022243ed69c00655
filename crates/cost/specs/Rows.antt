-- The paths that rows of bits hold. Assumes nothing.
use Rattle.std.specs.Prelude.{ℕ, Bool, false, cond, ◌&&◌, List, map, ◌==◌, nat_lt, slice_index_or}
use Rattle.bits.specs.Row.{row_bit}
use Rattle.bits.specs.declared.row.Row.{Row}
use Rattle.cost.specs.declared.rows.Rows.{Rows}

-- the path in one of 129 rows; beyond the last every bit is false
unfoldable pub path_in : List Row → ℕ → ℕ → Bool
path_in rows row = cond (nat_lt row 129) (slice_index_or (map row_bit rows) row (λ _. false)) (λ _. false)

abbrev pub path_at : Rows → ℕ → ℕ → Bool
path_at kept = path_in kept.rows

-- the paths after one row was written; beyond the last nothing is
abbrev pub with_path : (ℕ → ℕ → Bool) → ℕ → (ℕ → Bool) → ℕ → ℕ → Bool
with_path paths row path i = cond (i == row && nat_lt row 129) path (paths i)
