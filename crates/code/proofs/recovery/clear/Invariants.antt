-- The places before the index hold what they start from. Assumes nothing.
use Rattle.std.proofs.Common.{◌≡◌, ℕ, ◌<◌, cond, pos}
use Rattle.plan.specs.Plans.{mode_in, sent_at}
use Rattle.code.specs.Recovery.{value_at, unsent_soft}
use Rattle.code.proofs.recovery.clear.Given as goal

abbrev pub invariant-loop-i : goal.invariant-loop-i
invariant-loop-i l = (j : ℕ) → j < l.i → value_at l.llrs j ≡ cond (sent_at l.plan j) (pos 0) (unsent_soft (mode_in l.plan))
