use Rattle.std.proofs.Common.{sym, ◌∙◌}
use Rattle.store.specs.Order.{before}
use Rattle.heap.specs.Sorts.{length-sorted}
use Rattle.heap.proofs.binary.calls.HeapStore.count.Goals as goal

pub returns : goal.returns
returns c = record { result = c.len.ensures ∙ sym (length-sorted before _) }
