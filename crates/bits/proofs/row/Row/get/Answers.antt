use Rattle.std.proofs.Common.{sym, refl, arith}
use Rattle.bits.specs.Blocks.{words_bit}
use Rattle.bits.specs.Row.{row_bit}
use Rattle.bits.proofs.Packed.{row-bit-past}
use Rattle.bits.proofs.row.Row.get.Goals as goal

pub returns-then-k-lt-BITS : goal.returns-then-k-lt-BITS
unfolding row_bit words_bit
returns-then-k-lt-BITS c = record { result = c.bit.ensures; beyond = λ far. absurd (omega arith) }

pub returns-else-k-lt-BITS : goal.returns-else-k-lt-BITS
returns-else-k-lt-BITS c = record { result = sym (row-bit-past c.args.self.now c.args.k (omega arith)); beyond = λ _. refl }
