use Rattle.std.proofs.Common.{ap}
use Rattle.store.specs.Order.{before}
use Rattle.store.specs.Ordered.{in_order}
use Rattle.store.proofs.table.Table.new.Goals as goal

pub invariant_of-result : goal.invariant_of-result
unfolding in_order
invariant_of-result c = record { ordered = ap (in_order before) c.new.ensures.used }
