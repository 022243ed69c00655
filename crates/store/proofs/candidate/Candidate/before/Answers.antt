use Rattle.std.proofs.Common.{arith}
use Rattle.std.proofs.lemmas.Bool.Decides.{nat_tests}
use Rattle.store.specs.Order.{before}
use Rattle.store.proofs.candidate.Candidate.before.Goals as goal

pub returns-then-self-other : goal.returns-then-self-other
unfolding before
returns-then-self-other c = record { result = grind (arith, nat_tests) }

pub returns-then-self-other-2 : goal.returns-then-self-other-2
unfolding before
returns-then-self-other-2 c = record { result = grind (arith, nat_tests) }

pub returns-then-self-other-3 : goal.returns-then-self-other-3
unfolding before
returns-then-self-other-3 c = record { result = grind (arith, nat_tests) }

pub returns : goal.returns
unfolding before
returns c = record { result = grind (arith, nat_tests) }
