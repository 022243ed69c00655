use Rattle.std.proofs.Common.{◌≡◌, ◌+◌, ◌^◌, true, false, sym, ap, ◌∙◌, inr, arith}
use native.Mathlib.Nat.{zero-mod}
use Rattle.base.proofs.Transform.{code-bit-same}
use Rattle.bits.specs.Row.{is_aligned_block, row_bit}
use Rattle.bits.proofs.Blocked.{is_block, no_block}
use Rattle.bits.proofs.row.Row.transform.Goals as goal

pub returns : goal.returns
returns c =
    let n = c.args.n in
    let was = c.args.self.now in
    record {
      inside = λ small i l.
          let start : 0 + i ≡ i = omega arith in
          let block : is_aligned_block 0 n ≡ true = is_block 0 n small (omega arith) (zero-mod (2 ^ n)) in
          ap (row_bit c.transform_block.new.self) (sym start)
          ∙ c.transform_block.ensures.inside block i l
          ∙ code-bit-same n (λ k. row_bit was (0 + k)) (row_bit was) i (λ k _. let e : 0 + k ≡ k = omega arith in ap (row_bit was) e);
      outside = λ k l. c.transform_block.ensures.outside k (inr (omega arith));
      refused = λ far.
          let none : is_aligned_block 0 n ≡ false = no_block 0 n far in
          c.transform_block.ensures.refused none;
    }
