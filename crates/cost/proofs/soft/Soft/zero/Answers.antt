use Rattle.std.proofs.Common.{refl, arith}
use Rattle.cost.proofs.Silent.{silent, silent-bounded}
use Rattle.cost.proofs.soft.Soft.zero.Goals as goal

pub invariant_of-result : goal.invariant_of-result
invariant_of-result c = record {
  size = omega arith;
  whole = refl;
  bounded = silent-bounded _ refl;
}

pub returns : goal.returns
returns c = record { size = refl; values = silent _ refl }
