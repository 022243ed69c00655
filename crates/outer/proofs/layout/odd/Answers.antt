use Rattle.std.proofs.Common.{sym, ◌∙◌}
use Rattle.std.proofs.lemmas.Bool.{le-ltb}
use Rattle.base.proofs.Bits.{bit_past}
use Rattle.crc.proofs.Turns.{odd-bit}
use Rattle.outer.proofs.layout.odd.Goals as goal

pub returns-then-j-lt32 : goal.returns-then-j-lt32
returns-then-j-lt32 c = odd-bit c.args.sums c.args.j

pub returns-else-j-lt32 : goal.returns-else-j-lt32
returns-else-j-lt32 c = le-ltb c.args.j 32 c.if-j-lt32.false ∙ sym (bit_past c.args.sums 32 c.args.j c.ranges.sums.fits c.if-j-lt32.false)
