use Rattle.std.proofs.Common.{rules}
use Rattle.heap.proofs.Kept.{sorted-none}
use Rattle.heap.proofs.binary.Heap.new.Goals as goal

pub returns-clause-kept : goal.returns-clause-kept
returns-clause-kept c = search (rules, sorted-none)
