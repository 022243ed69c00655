-- What a heap keeps, how many it may keep, and its floor. Assumes nothing.
use Rattle.std.specs.Prelude.{ℕ, List, Option}
use Rattle.store.specs.declared.candidate.Candidate.{Candidate}
use Rattle.store.specs.Order.{before}
use Rattle.store.specs.Slots.{used, room, lowest}
use Rattle.heap.specs.declared.binary.Heap.{Heap}
use Rattle.heap.specs.Sorting.{sorted}

abbrev pub heap_kept : Heap → List Candidate
heap_kept h = sorted before (used h.slots)

abbrev pub heap_capacity : Heap → ℕ
heap_capacity h = room h.slots

abbrev pub heap_floor : Heap → Option ℕ
heap_floor h = lowest h.slots
