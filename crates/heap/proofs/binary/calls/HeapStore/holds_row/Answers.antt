use Rattle.std.proofs.Common.{◌≡◌, rules}
use Rattle.store.specs.Meaning.{holds_row}
use Rattle.store.specs.Order.{before}
use Rattle.store.specs.Slots.{used}
use Rattle.heap.specs.Sorting.{sorted}
use Rattle.heap.proofs.Kept.{holds-sorted}
use Rattle.heap.proofs.binary.calls.HeapStore.holds_row.Goals as goal

pub returns : goal.returns
returns c =
    let xs = used c.args.self.now.slots in
    let held : holds_row c.args.row (sorted before xs) ≡ holds_row c.args.row xs = holds-sorted c.args.row xs in
    search (rules, held)
