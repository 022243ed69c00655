use Rattle.std.proofs.Common.{sym, ◌∙◌, rules}
use Rattle.decoder.proofs.Loads.{examined}
use Rattle.decoder.proofs.state.State.examined.Goals as goal

pub returns : goal.returns
returns g c =
    let check = c.args.self.now.check in
    let apart = sym c.may_load.ensures ∙ c.if-not-may_load.false in
    examined g.C.Judge check c.args.plan.now c.args.llrs.now c.args.limits c.new.result
    c.ok_or_else.result _ apart c.new.ensures c.ok_or_else.ensures.cases
    (λ e h. search rules)
