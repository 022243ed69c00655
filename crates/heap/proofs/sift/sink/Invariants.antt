use Rattle.std.proofs.Common.{◌≡◌, ◌-◌, length}
use Rattle.store.specs.Order.{before}
use Rattle.heap.specs.Shape.{Sinking}
use Rattle.heap.specs.Sorting.{sorted}
use Rattle.heap.proofs.sift.sink.Given as goal

abbrev pub invariant-loop-at : goal.invariant-loop-at
invariant-loop-at l =
    (length l.slots ≡ length l.initial.slots)
    × Sinking l.slots (length l.initial.slots) l.at
    × (sorted before l.slots ≡ sorted before l.initial.slots)

abbrev pub decreases-loop-at : goal.decreases-loop-at
decreases-loop-at l = length l.initial.slots - l.at
