use Rattle.std.proofs.Common.{◌≡◌, ◌*◌, ◌/◌, ◌%◌, ◌^◌, ◌≤◌, min, sym, ap, ◌∙◌, div-mul-le_self, arith}
use Rattle.bits.specs.Row.{row_bit, same_bits}
use Rattle.bits.proofs.Agreement.{bits_at}
use Rattle.cost.specs.Levels.{start}
use Rattle.cost.proofs.soft.again.is_shared.Goals as goal

pub returns-then-i-m : goal.returns-then-i-m
returns-then-i-m c = λ yes.
    let m = c.args.m in
    let i = c.args.i in
    let u = row_bit c.args.row.now in
    let v = row_bit c.args.last.now.path in
    let begin : start m i ≤ i = div-mul-le_self i (2 ^ m) in
    let size : min (i / 2 ^ m * 2 ^ m % 2 ^ 64) 1024 ≡ start m i = omega arith in
    record {
      block = c.if-i-m.true;
      path = bits_at u v (start m i) (ap (same_bits u v) (sym size) ∙ sym c.agrees.ensures ∙ yes);
    }
