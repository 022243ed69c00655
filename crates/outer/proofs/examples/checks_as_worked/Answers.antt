use Rattle.std.proofs.Common.{refl}
use mathlib.Core.Bool.{xor}
use Rattle.crc.specs.Division.{listed, coefficients, added, divided}
use Rattle.outer.specs.Examples.{RemainderOfOne}
use Rattle.outer.proofs.examples.checks_as_worked.Goals as goal

remainder-worked : RemainderOfOne
unfolding listed coefficients added divided xor
remainder-worked = refl

pub returns : goal.returns
returns c = record {
  remainder = remainder-worked;
  spread = c.orders_as_worked.ensures.spread;
  published = c.orders_as_worked.ensures.published;
}
