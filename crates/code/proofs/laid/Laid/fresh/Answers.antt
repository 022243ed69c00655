-- The all-zero word is lawful under every plan. Assumes nothing.
use Rattle.bits.specs.Row.{row_bit}
use Rattle.plan.specs.Plans.{kind_at, block_length}
use Rattle.code.proofs.Positions.{zero-fit}
use Rattle.code.proofs.laid.Laid.fresh.Goals as goal

pub invariant_of-result : goal.invariant_of-result
invariant_of-result c =
    let fit = zero-fit (kind_at c.args.plan.now) (block_length c.args.plan.now) (row_bit c.zero.result) c.zero.ensures in
    record {
      frozen = fit.frozen;
      parity = fit.parity;
      beyond = fit.beyond;
    }
