use Rattle.clean.proofs.Places.{shortened-zero}
use Rattle.clean.proofs.shortened_places_carry_zero.Goals as goal

pub returns : goal.returns
returns c = shortened-zero
