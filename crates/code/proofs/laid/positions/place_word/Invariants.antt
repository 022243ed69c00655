-- The positions so far carry their word bits. Assumes nothing.
use Rattle.std.proofs.Common.{length}
use Rattle.bits.specs.Row.{row_bit}
use Rattle.plan.specs.Plans.{kind_at}
use Rattle.code.proofs.Positions.{Placed}
use Rattle.code.proofs.laid.positions.place_word.Given as goal

abbrev pub invariant-loop-i : goal.invariant-loop-i
invariant-loop-i l = Placed (kind_at l.plan) l.word (length l.yielded) (row_bit l.row)
