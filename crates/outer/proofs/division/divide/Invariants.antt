use Rattle.std.proofs.Common.{◌≡◌, ◌-◌, drop}
use Rattle.crc.specs.Division.{divided}
use Rattle.outer.proofs.division.divide.Given as goal

abbrev pub invariant-loop-i : goal.invariant-loop-i
invariant-loop-i l = divided l.divisor (l.steps - l.i) (drop l.i l.bits) ≡ divided l.divisor l.steps l.initial.bits
