use Rattle.std.proofs.Common.{◌≡◌, rules}
use Rattle.store.specs.Meaning.{first_metric}
use Rattle.store.specs.Order.{before}
use Rattle.store.specs.Slots.{used}
use Rattle.heap.specs.Sorting.{sorted}
use Rattle.heap.proofs.Kept.{first_metric-sorted}
use Rattle.heap.proofs.binary.calls.HeapStore.first_metric.Goals as goal

pub returns : goal.returns
returns c =
    let xs = used c.args.self.now.slots in
    let least : first_metric xs ≡ first_metric (sorted before xs) = first_metric-sorted xs c.args.self.now.heaped in
    search (rules, least)
