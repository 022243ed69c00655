use Rattle.clean.proofs.Advances.{clean-word-first}
use Rattle.clean.proofs.clean_word_first.Goals as goal

pub returns : goal.returns
returns g c = clean-word-first
