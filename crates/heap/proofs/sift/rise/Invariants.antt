use Rattle.std.proofs.Common.{◌≡◌, ◌<◌, length}
use Rattle.store.specs.Order.{before}
use Rattle.heap.specs.Shape.{Rising}
use Rattle.heap.specs.Sorting.{sorted}
use Rattle.heap.proofs.sift.rise.Given as goal

abbrev pub invariant-loop-at : goal.invariant-loop-at
invariant-loop-at l =
    (length l.slots ≡ length l.initial.slots)
    × (l.at < length l.initial.slots)
    × Rising l.slots (length l.initial.slots) l.at
    × (sorted before l.slots ≡ sorted before l.initial.slots)

abbrev pub decreases-loop-at : goal.decreases-loop-at
decreases-loop-at l = l.at
