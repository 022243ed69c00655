use Rattle.cost.proofs.laws.decision_values.Goals as goal
use Rattle.cost.proofs.Path.{decision-bounded, looks-back}

pub returns : goal.returns
returns c = record { most = decision-bounded; back = looks-back }
