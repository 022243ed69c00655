use Rattle.std.proofs.Common.{◌≡◌}
use Rattle.std.specs.Iterator.Adapters.{enumerate_source, enumerate_count}
use Rattle.crc.specs.Spread.{interleaved}
use Rattle.crc.proofs.Turns.{finishing}
use Rattle.outer.specs.Order.{left}
use Rattle.outer.proofs.layout.Layout.interleave.Given as goal

abbrev pub invariant-loop-place : goal.invariant-loop-place
invariant-loop-place l =
    goal.iterator-loop-place.can_next l.place-iterator
    × goal.iterator-loop-place.is_finite l.place-iterator
    × (finishing l.self.kind l.payload l.word (enumerate_count l.place-iterator) (left (enumerate_source l.place-iterator))
    ≡ interleaved l.self.kind l.payload)
