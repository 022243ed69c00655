use Rattle.bits.specs.Row.{row_bit}
use Rattle.bits.proofs.Packed.{words-bit-set}
use Rattle.bits.proofs.row.Row.set.Goals as goal

pub returns-then-k-lt-BITS : goal.returns-then-k-lt-BITS
unfolding row_bit
returns-then-k-lt-BITS c =
    words-bit-set c.args.self.now.words c.args.k c.with_bit.result c.args.value c.args.self.now.whole c.if-k-lt-BITS.true c.with_bit.ensures
