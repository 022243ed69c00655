use Rattle.bits.specs.Row.{row_bit}
use Rattle.bits.proofs.Packed.{words-bit-zero}
use Rattle.bits.proofs.row.Row.zero.Goals as goal

pub returns : goal.returns
unfolding row_bit
returns c = λ k. words-bit-zero 16 k
