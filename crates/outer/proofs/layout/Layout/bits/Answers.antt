use Rattle.std.proofs.Common.{ap₂}
use Rattle.crc.specs.Spread.{struck, order}
use Rattle.outer.proofs.layout.Layout.bits.Goals as goal

pub returns : goal.returns
unfolding order
returns c = ap₂ struck c.struck.ensures c.order_of.ensures
