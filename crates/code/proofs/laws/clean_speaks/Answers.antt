-- Sums of values of one sign keep it. Assumes nothing.
use Rattle.code.proofs.Signs.{clean-speaks}
use Rattle.code.proofs.laws.clean_speaks.Goals as goal

pub returns : goal.returns
returns c = clean-speaks
