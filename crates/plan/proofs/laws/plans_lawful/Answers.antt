-- The invariant of the type says it. Assumes nothing.
use Rattle.plan.proofs.laws.plans_lawful.Goals as goal

pub returns : goal.returns
returns c plan = record {
  informations = plan.informed;
  parities = plan.checked;
  unbarred = plan.unbarred;
  beyond = plan.beyond;
  mode = plan.moded;
}
