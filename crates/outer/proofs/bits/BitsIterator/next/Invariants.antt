use Rattle.std.proofs.Common.{◌≡◌, length}
use Rattle.outer.specs.Order.{left}
use Rattle.outer.proofs.bits.BitsIterator.next.Given as goal

abbrev pub invariant-loop-bit : goal.invariant-loop-bit
invariant-loop-bit l = left l.self ≡ left l.initial.self

abbrev pub decreases-loop-bit : goal.decreases-loop-bit
decreases-loop-bit l = length l.self.order.now
