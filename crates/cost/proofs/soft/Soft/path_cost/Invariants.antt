use Rattle.bits.specs.Row.{row_bit}
use Rattle.cost.specs.Block.{llr_of, size_of}
use Rattle.cost.proofs.Descent.{Walked}
use Rattle.cost.proofs.soft.Soft.path_cost.Given as goal

abbrev pub invariant-loop-i : goal.invariant-loop-i
invariant-loop-i l = Walked (size_of l.self) (llr_of l.self) (row_bit l.row) l.i l.total l.initial.scratch l.scratch
