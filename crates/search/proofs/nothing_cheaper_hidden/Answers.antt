use Rattle.search.proofs.Runs.{promise-kept}
use Rattle.search.proofs.nothing_cheaper_hidden.Goals as goal

pub returns : goal.returns
returns g c = λ m rules s calls laws. (promise-kept m rules s calls laws).hidden
