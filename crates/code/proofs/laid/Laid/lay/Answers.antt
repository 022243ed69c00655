-- What is laid is lawful under the word's own plan. Assumes nothing.
use Rattle.bits.specs.Row.{row_bit}
use Rattle.plan.specs.Plans.{kind_at, block_length}
use Rattle.code.specs.Laying.{bits_of}
use Rattle.code.proofs.Positions.{laid-fit}
use Rattle.code.proofs.laid.Laid.lay.Goals as goal

pub invariant_of-self : goal.invariant_of-self
invariant_of-self g c =
    let plan = c.args.self.now.plan in
    let fit = laid-fit (kind_at plan) (block_length plan) (g.C.Finish.finished c.args.check.now (bits_of c.args.payload.now)) (row_bit c.finished_row-bits.result)
    plan.beyond c.finished_row-bits.ensures in
    record { frozen = fit.frozen; parity = fit.parity; beyond = fit.beyond }
