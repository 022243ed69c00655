-- Every turn writes the two bytes of one value. Assumes nothing.
use Rattle.std.proofs.Common.{add-one, rules}
use Rattle.sender.specs.Arrivals.{value_bytes}
use Rattle.sender.proofs.arrival.values_body.Goals as goal

pub loop-k-init : goal.loop-k-init
unfolding value_bytes
loop-k-init c = c.new-body.ensures.items

pub loop-k-preserved : goal.loop-k-preserved
unfolding value_bytes
loop-k-preserved c = rw (add-one, value_bytes) (search rules)
