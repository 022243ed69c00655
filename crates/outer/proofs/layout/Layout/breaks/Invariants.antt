use Rattle.std.proofs.Common.{◌≡◌}
use Rattle.std.specs.Iterator.Adapters.{zip_first, zip_second}
use Rattle.std.specs.Slice.Iter.{iter_rest}
use Rattle.crc.specs.Spread.{broken}
use Rattle.crc.proofs.Turns.{judged}
use Rattle.outer.specs.Order.{left}
use Rattle.outer.proofs.layout.Layout.breaks.Given as goal

abbrev pub invariant-loop-value : goal.invariant-loop-value
invariant-loop-value l =
    judged l.self.kind l.self.payload_bits l.sums (left (zip_second l.value-iterator)) (iter_rest (zip_first l.value-iterator))
    ≡ broken l.self.kind l.self.payload_bits l.beginning
