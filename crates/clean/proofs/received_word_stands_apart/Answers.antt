use Rattle.clean.proofs.Words.{stands-apart}
use Rattle.clean.proofs.received_word_stands_apart.Goals as goal

pub returns : goal.returns
returns c = stands-apart
