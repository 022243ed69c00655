use Rattle.search.proofs.Runs.{promise-kept}
use Rattle.search.proofs.promise_kept.Goals as goal

pub returns : goal.returns
returns g c = promise-kept
