-- The bytes before the index are the sent bits. Assumes nothing.
use Rattle.std.proofs.Common.{◌≡◌, ℕ, ◌<◌, get_or}
use Rattle.plan.specs.Plans.{place_of}
use Rattle.code.specs.Sending.{coded_plan, coded_at, byte_of}
use Rattle.code.proofs.coded.Coded.write_sent.Given as goal

abbrev pub invariant-loop-k : goal.invariant-loop-k
invariant-loop-k l = (j : ℕ) → j < l.k → get_or l.out j 0 ≡ byte_of (coded_at l.self (place_of (coded_plan l.self) j))
