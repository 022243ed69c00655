use Rattle.crc.specs.declared.spread.Spread.TheVariants.{Four, TwentyFour}
use Rattle.crc.proofs.Tables.{places}
use Rattle.crc.proofs.Packed.{order-placed}
use Rattle.outer.proofs.pattern.order_of.Goals as goal

pub returns-in-Four : goal.returns-in-Four
unfolding places
returns-in-Four c = order-placed c.args.kind Four c.in-Four.is

pub returns-in-TwentyFour : goal.returns-in-TwentyFour
unfolding places
returns-in-TwentyFour c = order-placed c.args.kind TwentyFour c.in-TwentyFour.is
