use Rattle.store.proofs.Candidates.{none-before-itself}
use Rattle.store.proofs.laws.none_before_itself.Goals as goal

pub returns : goal.returns
returns c = none-before-itself
