-- The order of places is a permutation. Assumes nothing.
use Rattle.plan.proofs.Orders.{order-permutes}
use Rattle.plan.proofs.laws.order_permutes.Goals as goal

pub returns : goal.returns
returns c = order-permutes
