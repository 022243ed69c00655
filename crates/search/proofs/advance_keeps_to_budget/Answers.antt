use Rattle.search.proofs.Exact.{keeps-to-budget}
use Rattle.search.proofs.advance_keeps_to_budget.Goals as goal

pub returns : goal.returns
returns g c = keeps-to-budget
