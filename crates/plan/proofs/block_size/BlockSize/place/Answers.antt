-- The parts of the order's formula are in range. Assumes nothing.
use Rattle.std.proofs.Common.{◌≡◌, ◌+◌, ◌*◌, ◌/◌, ◌%◌, ◌^◌, ◌<◌, sym, ap, ◌∙◌, subst, arith}
use Rattle.std.proofs.lemmas.Nat.{div_below, pow_pos}
use Rattle.plan.specs.Order.{order_at}
use Rattle.plan.proofs.Orders.{part_at, order-inside}
use Rattle.plan.proofs.block_size.BlockSize.place.Goals as goal

pub part-requires : goal.part-requires
part-requires c =
    let n = c.args.self.n in
    subst (λ x. 32 * c.args.k / x < 32) (sym c.length-length.ensures.result)
    (div_below (32 * c.args.k) (2 ^ n) 32 (pow_pos n) (omega arith))

pub returns : goal.returns
returns c =
    let n = c.args.self.n in
    let size = c.length-length.result / 32 in
    let result : c.part.result * size + c.args.k % size ≡ order_at n c.args.k =
    ap (λ x. x * size + c.args.k % size) c.part.ensures.result
    ∙ ap (λ x. part_at (32 * c.args.k / x) * (x / 32) + c.args.k % (x / 32)) c.length-length.ensures.result in
    record {
      result = result;
      inside = subst (λ x. x < 2 ^ n) (sym result) (order-inside n c.args.self.least c.args.k c.requires);
    }
