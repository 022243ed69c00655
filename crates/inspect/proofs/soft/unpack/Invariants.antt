-- The values before the index are read. Assumes nothing.
use Rattle.std.proofs.Common.{◌≡◌, ℕ, ◌<◌}
use Rattle.block.specs.Fields.{received_at}
use Rattle.code.specs.Recovery.{value_at}
use Rattle.inspect.proofs.soft.unpack.Given as goal

abbrev pub invariant-loop-k : goal.invariant-loop-k
invariant-loop-k l = (j : ℕ) → j < l.k → value_at l.values j ≡ received_at l.body j
