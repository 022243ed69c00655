use Rattle.std.proofs.Common.{arith}
use mathlib.Core.Bool.{xor}
use Rattle.std.proofs.lemmas.Bool.Decides.{nat_tests}
use Rattle.outer.proofs.layout.Layout.disagrees.Goals as goal

pub returns-then-bit-self : goal.returns-then-bit-self
unfolding xor
returns-then-bit-self c = let odd = c.odd.ensures in grind (arith, nat_tests)
