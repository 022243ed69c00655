use Rattle.std.proofs.Common.{◌≡◌}
use Rattle.std.specs.Iterator.Adapters.{zip_first, zip_second}
use Rattle.std.specs.Slice.Iter.{iter_rest}
use Rattle.crc.specs.Spread.{deinterleaved}
use Rattle.crc.proofs.Scatters.{scattered}
use Rattle.outer.specs.Order.{left}
use Rattle.outer.proofs.layout.Layout.deinterleave.Given as goal

abbrev pub invariant-loop-bit : goal.invariant-loop-bit
invariant-loop-bit l =
    scattered (left (zip_first l.bit-iterator)) (iter_rest (zip_second l.bit-iterator)) l.payload
    ≡ deinterleaved l.fn.self.kind l.fn.self.payload_bits l.word
