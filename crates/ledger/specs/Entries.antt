-- What the ledger of a path says of one position, and the soft values of a block file. Assumes nothing.
use Rattle.std.specs.Prelude.{◌≡◌, ℕ, Bool, true, false, ◌&&◌, Some, None, Option, ◌==◌, nat_lt}
use Rattle.plan.specs.declared.plan.Plan.{Plan}
use Rattle.plan.specs.Plans.{log_length, block_length}
use Rattle.bits.specs.declared.row.Row.{Row}
use Rattle.bits.specs.Row.{row_bit}
use Rattle.cost.specs.declared.soft.Soft.{Soft}
use Rattle.cost.specs.Block.{llr_of, size_of}
use Rattle.cost.specs.Path.{decision}
use Rattle.cost.specs.Values.{contradicts}
use Rattle.ledger.specs.declared.entry.BitEntry.{BitEntry}

-- the soft values are of the plan's block, and i is a position of it
abbrev pub on_block : Plan → Soft → ℕ → Bool
on_block plan soft i = size_of soft == log_length plan && nat_lt i (block_length plan)

pub record Entered (soft : Soft) (row : Row) (i : ℕ) (e : BitEntry) : Type 0 where
  pub value : e.value ≡ decision (size_of soft) (llr_of soft) (row_bit row) i
  pub bit : e.bit ≡ row_bit row i
  pub cost : e.cost ≡ contradicts (decision (size_of soft) (llr_of soft) (row_bit row) i) (row_bit row i)

abbrev pub EntryAt : Plan → Soft → Row → ℕ → Option BitEntry → Type 0
EntryAt plan soft row i (Some e) = (on_block plan soft i ≡ true) × Entered soft row i e
EntryAt plan soft row i None = on_block plan soft i ≡ false
