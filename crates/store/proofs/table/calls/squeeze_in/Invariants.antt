use Rattle.std.proofs.Common.{◌≡◌, ◌++◌, take, drop}
use Rattle.store.specs.Order.{before}
use Rattle.store.specs.Ordered.{inserted}
use Rattle.store.proofs.table.calls.squeeze_in.Given as goal

abbrev pub invariant-loop-slot : goal.invariant-loop-slot
invariant-loop-slot l =
    (inserted before l.initial.slots l.initial.last ≡ take l.slot-index l.slots ++ inserted before (drop l.slot-index l.slots) l.last)
    × (drop l.slot-index l.slots ≡ drop l.slot-index l.initial.slots)
