use Rattle.std.proofs.Common.{refl}
use Rattle.base.specs.Bits.{bit_of}
use Rattle.bits.proofs.word.bit.Goals as goal

pub returns : goal.returns
unfolding bit_of
returns c = refl
