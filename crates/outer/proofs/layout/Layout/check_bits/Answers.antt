use Rattle.std.proofs.Common.{false, ◌&&◌, get_or, sym, ap, ◌∙◌, arith}
use mathlib.Core.Bool.{xor}
use Rattle.base.specs.Bits.{bit_of}
use Rattle.crc.specs.Spread.{enters_at}
use Rattle.crc.proofs.Turns.{sums-none, sums-more, sums-all}
use Rattle.outer.proofs.layout.Layout.check_bits.Goals as goal

pub loop-i-init : goal.loop-i-init
loop-i-init c = sums-none c.args.self.kind c.args.payload.now

pub loop-i-preserved : goal.loop-i-preserved
loop-i-preserved c =
    sums-more c.args.self.kind c.args.payload.now c.loop-i.i c.loop-i.sums c.entered-sums.result c.loop-i.invariant
    (λ j. c.entered-sums.ensures j ∙ ap (λ n. xor (bit_of c.loop-i.sums j) (enters_at c.args.self.kind n j c.loop-i.i && get_or c.args.payload.now c.loop-i.i false)) (sym c.requires))

pub returns : goal.returns
returns c =
    sums-all c.args.self.kind c.args.payload.now c.loop-i.i c.loop-i.sums (omega arith) (omega (arith, c.args.self.taken)) c.loop-i.invariant
