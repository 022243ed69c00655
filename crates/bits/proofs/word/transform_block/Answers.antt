use Rattle.std.proofs.Common.{◌+◌, ◌^◌, ◌<◌, ◌≤◌, ◌∙◌, arith}
use Rattle.base.specs.Bits.{bit_of}
use Rattle.bits.proofs.Butterfly.{block-bit-at, block-fits, pow-whole}
use Rattle.bits.proofs.Masks.{merged}
use Rattle.bits.proofs.word.transform_block.Goals as goal

pub returns : goal.returns
returns c =
    let n = c.args.n in
    let o = c.args.offset in
    let room : n ≤ 6 = omega arith in
    let fit : o + 2 ^ n ≤ 64 = block-fits n 64 o (pow-whole n 6 room) c.requires.aligned c.requires.width.1 in
    let m = merged c.args.x c.transform_blocks.result c.span-mask.result o n c.span-mask.type_inv c.span-mask.ensures in
    record {
      inside = λ i h.
          let l : o + i < 64 = omega arith in
          m.inside (o + i) l (omega arith) (omega arith)
          ∙ c.transform_blocks.ensures (o + i) l
          ∙ block-bit-at n (bit_of c.args.x) o i c.requires.aligned h;
      outside = m.outside;
    }
