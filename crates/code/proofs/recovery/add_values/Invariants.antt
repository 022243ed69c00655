-- The values before the index are added onto their places. Assumes nothing.
use Rattle.plan.specs.Plans.{place_of}
use Rattle.code.specs.Recovery.{value_at}
use Rattle.code.proofs.Totals.{Added}
use Rattle.code.proofs.recovery.add_values.Given as goal

abbrev pub invariant-loop-k : goal.invariant-loop-k
invariant-loop-k l = Added (place_of l.plan) (value_at l.values) l.initial.llrs l.k l.llrs
