use Rattle.model.proofs.Blocks.{judged-whole}
use Rattle.model.proofs.words_judged_whole.Goals as goal

pub returns : goal.returns
returns c = judged-whole
