use Rattle.search.proofs.Clean.{pauses-change-nothing}
use Rattle.search.proofs.pauses_change_nothing.Goals as goal

pub returns : goal.returns
returns g c = pauses-change-nothing
