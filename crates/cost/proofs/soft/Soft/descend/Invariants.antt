use Rattle.bits.specs.Row.{row_bit}
use Rattle.cost.specs.Block.{llr_of, size_of}
use Rattle.cost.proofs.Descent.{Descent}
use Rattle.cost.proofs.soft.Soft.descend.Given as goal

abbrev pub invariant-loop-m : goal.invariant-loop-m
invariant-loop-m l =
    Descent (size_of l.self) (llr_of l.self) (row_bit l.row) l.i l.m l.initial.scratch l.scratch
