-- Soft values that are no block's are beyond its limits at the first place that is. Assumes nothing.
use Rattle.std.proofs.Common.{◌≡◌, ◌<◌, take, get_or-take, sym, subst, rules}
use Rattle.std.specs.Option.{unwrap_or}
use Rattle.base.specs.declared.refusal.Refusal.TheVariants.{Block}
use Rattle.cost.specs.Limits.{first_beyond}
use Rattle.ledger.specs.Softs.{IsFirstBeyond}
use Rattle.ledger.proofs.Beyond.{first-beyond, stands-in}
use Rattle.ledger.proofs.soft.soft_values.Goals as goal

pub returns-clause-limited : goal.returns-clause-limited
returns-clause-limited c = λ counted granted.
    let llrs = take c.length.result c.in_ok-llrs.llrs in
    stands-in c.new.result c.ok_or_else.result _ _ _ (IsFirstBeyond c.args.plan.now c.args.body.now) c.new.ensures c.ok_or_else.ensures.cases
    (λ refused e said. let is : e ≡ Block (unwrap_or (first_beyond llrs) 0) = search rules in
    subst (IsFirstBeyond c.args.plan.now c.args.body.now) (sym is)
    (first-beyond c.args.plan.now c.args.body.now c.from.result llrs (search rules) (search rules) (search rules)
    (λ i l. let here : i < c.length.result = search rules in rw get_or-take (c.in_ok-llrs.ensures.1 i l)) refused))
