use Rattle.store.proofs.Candidates.{unordered-are-equal}
use Rattle.store.proofs.laws.unordered_are_equal.Goals as goal

pub returns : goal.returns
returns c = unordered-are-equal
