use Rattle.std.proofs.Common.{ap, ◌∙◌}
use Rattle.bits.specs.Blocks.{words_bit}
use Rattle.bits.specs.Row.{row_bit, same_bits}
use Rattle.bits.proofs.row.Row.agrees.Goals as goal

pub returns : goal.returns
unfolding row_bit
returns c = c.agree.ensures ∙ ap (same_bits (words_bit c.args.self.now.words) (words_bit c.args.other.now.words)) c.min.ensures
