use Rattle.search.proofs.Exact.{stays-exact}
use Rattle.search.proofs.candidates_stay_exact.Goals as goal

pub returns : goal.returns
returns g c = stays-exact
