use Rattle.store.proofs.Candidates.{earlier-costs-no-more}
use Rattle.store.proofs.laws.earlier_costs_no_more.Goals as goal

pub returns : goal.returns
returns c = earlier-costs-no-more
