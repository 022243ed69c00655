-- A place is sent at most 256 times. Assumes nothing.
use Rattle.code.proofs.Bounds.{soft-bounded}
use Rattle.code.proofs.laws.soft_bounded.Goals as goal

pub returns : goal.returns
returns c = soft-bounded
