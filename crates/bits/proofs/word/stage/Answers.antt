use Rattle.std.proofs.Common.{◌<◌, ◌/◌, ◌^◌, ap, ◌∙◌, arith}
use lib.Bits.{bit_and, bit_xor}
use lib.Pow.{pow-lt}
use Rattle.std.proofs.lemmas.Nat.{one_shl}
use Rattle.base.specs.Bits.{bit_of}
use Rattle.bits.proofs.Masks.{bit-stage}
use Rattle.bits.proofs.word.stage.Goals as goal

pub overflow_shr-result : goal.overflow_shr-result
overflow_shr-result c = omega (arith, one_shl c.args.s 64 (omega arith), pow-lt c.requires.width)

pub returns : goal.returns
returns c = λ k h.
    let small : c.args.s < 64 = omega arith in
    ap (λ p. bit_of (bit_xor c.args.x (bit_and (c.args.x / 2 ^ p) c.stage_mask.result)) k) (one_shl c.args.s 64 small)
    ∙ bit-stage c.args.x c.stage_mask.result c.args.s k (c.stage_mask.ensures k h)
