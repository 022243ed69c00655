use Rattle.crc.proofs.Turns.{Summed}
use Rattle.outer.proofs.layout.Layout.check_bits.Given as goal

abbrev pub invariant-loop-i : goal.invariant-loop-i
invariant-loop-i l = Summed l.self.kind l.payload l.i l.sums
