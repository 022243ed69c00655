use Rattle.search.proofs.Clean.{clean-comes-first}
use Rattle.search.proofs.clean_word_comes_first.Goals as goal

pub returns : goal.returns
returns g c = clean-comes-first
