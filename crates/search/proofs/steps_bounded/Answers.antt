use Rattle.search.proofs.Runs.{promise-kept}
use Rattle.search.proofs.steps_bounded.Goals as goal

pub returns : goal.returns
returns g c = λ m rules s calls laws. (promise-kept m rules s calls laws).steps
