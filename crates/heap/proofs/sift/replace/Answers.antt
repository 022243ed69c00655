use Rattle.std.proofs.Common.{length-set}
use Rattle.heap.proofs.Writes.{rising-in-place}
use Rattle.heap.proofs.sift.replace.Goals as goal

pub rise-requires-clause-rising : goal.rise-requires-clause-rising
rise-requires-clause-rising c =
    rw length-set (rising-in-place c.args.slots.now c.args.place c.args.c c.requires.within c.requires.earlier c.requires.heaped)
