use Rattle.clean.proofs.Advances.{received-word-first}
use Rattle.clean.proofs.received_word_first.Goals as goal

pub returns : goal.returns
returns g c = received-word-first
