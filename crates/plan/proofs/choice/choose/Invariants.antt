-- The loop has settled the rungs that the iterator has left behind. Assumes nothing.
use Rattle.plan.specs.Order.{barred_in}
use Rattle.plan.proofs.Walk.{Leaves}
use Rattle.plan.proofs.choice.choose.Given as goal

abbrev pub invariant-loop-i : goal.invariant-loop-i
invariant-loop-i l = Leaves (barred_in l.marks l.low) l.quota.word l.quota.parity l.i-iterator.iter.rest.now l.kinds l.open
