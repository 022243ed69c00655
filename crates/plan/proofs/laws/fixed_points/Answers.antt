-- The worked examples, each by computing it. Assumes nothing.
use Rattle.std.proofs.Common.{refl}
use Rattle.base.specs.Counts.{any_below, count_below, sum_below}
use Rattle.plan.specs.Laws.{list_below}
use Rattle.plan.specs.Order.{pattern}
use Rattle.plan.specs.Reliability.{weight}
use Rattle.plan.proofs.laws.fixed_points.Goals as goal

pub returns : goal.returns
unfolding any_below count_below sum_below list_below pattern weight
returns c = record {
  order-6 = refl;
  order-7 = refl;
  parities = refl;
  informations = refl;
  punctures = refl;
  shortens = refl;
  low-27 = refl;
  low-28 = refl;
}
