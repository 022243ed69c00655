use Rattle.store.proofs.Candidates.{order-carries-over}
use Rattle.store.proofs.laws.order_carries_over.Goals as goal

pub returns : goal.returns
returns c = order-carries-over
