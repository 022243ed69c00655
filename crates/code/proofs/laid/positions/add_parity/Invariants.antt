-- The parity positions so far hold their sums. Assumes nothing.
use Rattle.std.proofs.Common.{length}
use Rattle.bits.specs.Row.{row_bit}
use Rattle.plan.specs.Plans.{kind_at}
use Rattle.code.proofs.Positions.{Summed}
use Rattle.code.proofs.laid.positions.add_parity.Given as goal

abbrev pub invariant-loop-i : goal.invariant-loop-i
invariant-loop-i l = Summed (kind_at l.plan) (row_bit l.initial.row) (length l.yielded) (row_bit l.row)
