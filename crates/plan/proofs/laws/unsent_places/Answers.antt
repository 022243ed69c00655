-- What each mode leaves out. Assumes nothing.
use Rattle.plan.proofs.Sent.{unsent-places}
use Rattle.plan.proofs.laws.unsent_places.Goals as goal

pub returns : goal.returns
returns c = unsent-places
