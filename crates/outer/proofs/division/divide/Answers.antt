use Rattle.std.proofs.Common.{◌∙◌, arith}
use Rattle.crc.proofs.Remainders.{divide-one, divide-none, divide-all}
use Rattle.outer.proofs.division.divide.Goals as goal
use Rattle.outer.proofs.division.divide.Goals.{then-bits-i, else-bits-i}

pub loop-i-preserved : goal.loop-i-preserved
loop-i-preserved c = elim c.if-bits-i.branch [
  | then-bits-i w ↦ divide-one c.args.divisor.now c.loop-i.bits c.if-bits-i.bits w.add_onto.new.bits c.args.steps c.loop-i.i (omega arith) (omega arith) w.if-bits-i.true w.bits-is w.add_onto.ensures ∙ c.loop-i.invariant
  | else-bits-i w ↦ divide-none c.args.divisor.now c.loop-i.bits c.if-bits-i.bits c.args.steps c.loop-i.i (omega arith) (omega arith) w.if-bits-i.false w.bits-is ∙ c.loop-i.invariant
]

pub returns : goal.returns
returns c =
    divide-all c.args.divisor.now c.loop-i.bits _ c.args.steps c.loop-i.i (omega arith) (omega arith)
    c.loop-i.invariant
