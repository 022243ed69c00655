use Rattle.bits.proofs.Masks.{bit_mask}
use Rattle.bits.proofs.word.stage_mask.Goals as goal

pub returns : goal.returns
returns c = λ k h. bit_mask c.args.s k c.requires.width h
