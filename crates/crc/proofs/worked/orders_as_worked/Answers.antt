use Rattle.std.proofs.Common.{refl}
use mathlib.Core.Bool.{xor}
use Rattle.base.specs.Counts.{any_below}
use Rattle.crc.specs.Division.{listed, coefficients, added, divided}
use Rattle.crc.specs.Spread.{rows, enters, placed, struck, order, interleaved, sum_into, some_bit, enters_at, disagrees, broken}
use Rattle.crc.specs.declared.spread.Spread.TheVariants.{TwentyFour}
use Rattle.crc.specs.Examples.{SpreadOfEight, SpreadAsPublished}
use Rattle.crc.proofs.Tables.{places}
use Rattle.crc.proofs.Interleaving.{order-struck}
use Rattle.crc.proofs.worked.orders_as_worked.Goals as goal

spread-worked : SpreadOfEight
unfolding listed coefficients added divided xor any_below rows enters placed struck order interleaved sum_into some_bit enters_at disagrees broken
spread-worked = (refl, refl, refl, refl)

spread-published : SpreadAsPublished
unfolding struck places
spread-published = order-struck TwentyFour 140

pub returns : goal.returns
returns c = record { spread = spread-worked; published = spread-published }
