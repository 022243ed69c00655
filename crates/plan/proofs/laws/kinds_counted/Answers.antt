-- Counts by rank, for every order of reliability. Assumes nothing.
use Rattle.plan.proofs.Ranks.{kinds-counted}
use Rattle.plan.proofs.laws.kinds_counted.Goals as goal

pub returns : goal.returns
returns c = kinds-counted
