use Rattle.std.proofs.Common.{ap}
use Rattle.store.specs.Order.{before}
use Rattle.store.specs.Ordered.{in_order}
use Rattle.store.proofs.table.calls.TableStore.empty.Goals as goal

pub invariant_of-self : goal.invariant_of-self
unfolding in_order
invariant_of-self c = record { ordered = ap (in_order before) c.empty.ensures.used }
