use Rattle.std.proofs.Common.{◌-◌, ◌^◌, cond, eqb, sym, ap, ◌∙◌}
use Rattle.std.proofs.lemmas.Nat.{one_shl}
use lib.Bits.{bit_and, bit_or}
use Rattle.base.specs.Bits.{bit_of}
use Rattle.bits.proofs.Masks.{bit-set, bit-cleared}
use Rattle.bits.proofs.word.with_bit.Goals as goal

pub returns-then-value : goal.returns-then-value
returns-then-value c = λ j h.
    ap (λ m. bit_of (bit_or c.args.x m) j) (one_shl c.args.k 64 c.requires.width)
    ∙ bit-set c.args.x c.args.k j
    ∙ ap (λ b. cond (eqb j c.args.k) b (bit_of c.args.x j)) (sym c.if-value.true)

pub returns-else-value : goal.returns-else-value
returns-else-value c = λ j h.
    ap (λ m. bit_of (bit_and c.args.x (2 ^ 64 - 1 - m)) j) (one_shl c.args.k 64 c.requires.width)
    ∙ bit-cleared c.args.x c.args.k j c.requires.width h
    ∙ ap (λ b. cond (eqb j c.args.k) b (bit_of c.args.x j)) (sym c.if-value.false)
