use Rattle.std.proofs.Common.{ℕ, ◌<◌, ◌≤◌, length}
use Rattle.heap.specs.Shape.{NotBefore}
use Rattle.heap.proofs.sift.last_from.Given as goal

abbrev pub invariant-loop-i : goal.invariant-loop-i
invariant-loop-i l = (l.last < length l.slots) × ((k : ℕ) → l.start ≤ k → k < l.i → NotBefore l.slots l.last k)
