use Rattle.std.proofs.Common.{◌≡◌, ◌++◌, take, drop}
use Rattle.crc.specs.Division.{added}
use Rattle.outer.proofs.division.add_onto.Given as goal

abbrev pub invariant-loop-k : goal.invariant-loop-k
invariant-loop-k l = take l.k l.bits ++ added (drop l.k l.divisor) (drop l.k l.bits) ≡ added l.divisor l.initial.bits
