-- Supersets stand later in the order. Assumes nothing.
use Rattle.plan.proofs.Orders.{supersets-later}
use Rattle.plan.proofs.laws.supersets_later.Goals as goal

pub returns : goal.returns
returns c = supersets-later
