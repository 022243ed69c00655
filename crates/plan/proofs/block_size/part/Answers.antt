-- The table holds the pattern, whose entries are below 32. Assumes nothing.
use Rattle.std.proofs.Common.{refl}
use Rattle.plan.specs.Order.{pattern}
use Rattle.plan.proofs.Orders.{part-inside}
use Rattle.plan.proofs.block_size.part.Goals as goal

pub returns : goal.returns
unfolding pattern
returns c = record { result = refl; inside = part-inside c.args.a c.requires }
