use Rattle.std.proofs.Common.{◌≡◌, ◌+◌, ◌-◌, get_or, ap, ◌∙◌, arith}
use mathlib.Core.Bool.{xor}
use Rattle.std.proofs.lemmas.Bool.Decides.{nat_tests}
use Rattle.base.specs.Bits.{bit_of}
use Rattle.base.proofs.Bits.{bit-xor}
use Rattle.crc.specs.Spread.{longest, rows, enters, enters_at}
use Rattle.outer.proofs.layout.Layout.entered.Goals as goal
use Rattle.outer.proofs.layout.Layout.entered.Goals.{else-value-via-then-value+else-bit-self, else-value-via-else-value}

pub returns-then-bit-self : goal.returns-then-bit-self
unfolding enters_at xor
returns-then-bit-self c j =
    let row = get_or c.rows_of.result.now (c.struck.result + c.args.bit) 0 in
    let listed : bit_of row j ≡ enters (rows c.args.self.kind) (longest c.args.self.kind - c.args.self.payload_bits + c.args.bit) j =
    c.rows_of.ensures.bits (c.struck.result + c.args.bit) j (omega arith)
    ∙ ap (λ s. enters (rows c.args.self.kind) (s + c.args.bit) j) c.struck.ensures in
    grind (arith, nat_tests, bit-xor c.args.sums row j)

pub returns-else-value : goal.returns-else-value
unfolding enters_at xor
returns-else-value c j = let either = c.else-value.either in grind (arith, nat_tests)
