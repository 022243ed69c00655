-- By the invariant of the type. Assumes nothing.
use Rattle.code.proofs.laws.laid_lawful.Goals as goal

pub returns : goal.returns
returns c = λ word. record { frozen = word.frozen; parity = word.parity }
