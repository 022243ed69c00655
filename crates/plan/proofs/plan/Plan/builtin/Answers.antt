-- The built-in plan is lawful, and the plan of its request. Assumes nothing.
use Rattle.std.proofs.Common.{rules}
use Rattle.plan.proofs.Lawful.{builtin-kinds, builtin-lawful}
use Rattle.plan.proofs.plan.Plan.builtin.Goals as goal

pub invariant_of-result-clause-informed : goal.invariant_of-result-clause-informed
invariant_of-result-clause-informed c = builtin-lawful.informed

pub invariant_of-result-clause-checked : goal.invariant_of-result-clause-checked
invariant_of-result-clause-checked c = builtin-lawful.checked

pub invariant_of-result-clause-unbarred : goal.invariant_of-result-clause-unbarred
invariant_of-result-clause-unbarred c = builtin-lawful.unbarred

pub invariant_of-result-clause-beyond : goal.invariant_of-result-clause-beyond
invariant_of-result-clause-beyond c = builtin-lawful.beyond

pub returns : goal.returns
returns c = let kinds = builtin-kinds in search rules
