use Rattle.crc.specs.declared.spread.Spread.TheVariants.{Four, TwentyFour}
use Rattle.crc.proofs.Tables.{masks}
use Rattle.crc.proofs.Packed.{mask-row}
use Rattle.outer.proofs.pattern.rows_of.Goals as goal

pub returns-in-Four-clause-bits : goal.returns-in-Four-clause-bits
unfolding masks
returns-in-Four-clause-bits c i j inside = mask-row c.args.kind Four i j c.in-Four.is inside

pub returns-in-TwentyFour-clause-bits : goal.returns-in-TwentyFour-clause-bits
unfolding masks
returns-in-TwentyFour-clause-bits c i j inside = mask-row c.args.kind TwentyFour i j c.in-TwentyFour.is inside
