use Rattle.clean.proofs.Encoder.{coded-sent}
use Rattle.clean.proofs.coded_words_sent.Goals as goal

pub returns : goal.returns
returns c = coded-sent
