-- The loop marks a place for every sent bit so far. Assumes nothing.
use Rattle.plan.specs.Order.{sent_place}
use Rattle.plan.proofs.Sent.{Marked}
use Rattle.plan.proofs.matching.Matching.marks.Given as goal

abbrev pub invariant-loop-k : goal.invariant-loop-k
invariant-loop-k l = Marked (sent_place l.self.mode l.self.size.n l.self.sent) l.k l.marks
