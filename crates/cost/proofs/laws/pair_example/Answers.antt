use Rattle.std.proofs.Common.{refl}
use mathlib.Core.Bool.{xor}
use Rattle.base.specs.Counts.{sum_below, xor_below}
use Rattle.cost.specs.Path.{decision}
use Rattle.cost.proofs.laws.pair_example.Goals as goal

pub returns : goal.returns
unfolding sum_below xor_below xor decision
returns c = (refl, refl, refl, refl)
