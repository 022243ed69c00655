use Rattle.std.proofs.Common.{◌≡◌, vec_items}
use Rattle.sender.specs.Arrivals.{arriving, value_bytes}
use Rattle.sender.proofs.arrival.values_body.Given as goal

abbrev pub invariant-loop-k : goal.invariant-loop-k
invariant-loop-k l = vec_items l.body ≡ value_bytes l.request.magnitude (arriving (vec_items l.request.flips) l.bits) l.k
