-- The values are those of the field that was read. Assumes nothing.
use Rattle.std.proofs.Common.{Err, inr, sym, ap, ◌∙◌, subst}
use Rattle.inspect.specs.Softs.{SoftSheetOf}
use Rattle.inspect.proofs.Mapped.{ok-before, err-before, passed-on}
use Rattle.inspect.proofs.Places.{plan-of, refused-of, softs-of, verdict-of}
use Rattle.inspect.proofs.soft.soft_sheet.Goals as goal

pub returns-in_err-plan : goal.returns-in_err-plan
returns-in_err-plan c =
    let file = rw (ok-before c.examine.result c.map_err.result _ c.in_ok-block.block c.map_err.ensures.cases c.in_ok-block.was) at c.examine.ensures in
    let refused = err-before c.try_from.result c.map_err-2.result _ c.in_err-plan.field-0.0 c.map_err-2.ensures.cases c.in_err-plan.was in
    let passed = passed-on c.from_residual-in_err-plan.result c.in_err-plan.field-0.0 c.from_residual-in_err-plan.ensures.1 in
    subst (SoftSheetOf c.args.input.now) (sym (passed ∙ ap Err refused.1.1))
    (inr (refused-of c.args.input.now c.in_ok-block.block c.request.result c.try_from.result refused.0
    file refused.1.0 c.try_from.ensures c.request.ensures))

pub returns-in_err-llrs : goal.returns-in_err-llrs
returns-in_err-llrs c =
    let file = rw (ok-before c.examine.result c.map_err.result _ c.in_ok-block.block c.map_err.ensures.cases c.in_ok-block.was) at c.examine.ensures in
    let made = ok-before c.try_from.result c.map_err-2.result _ c.in_ok-plan.plan c.map_err-2.ensures.cases c.in_ok-plan.was in
    let refused = err-before c.soft_places.result c.map_err-3.result _ c.in_err-llrs.field-0.0 c.map_err-3.ensures.cases c.in_err-llrs.was in
    let passed = passed-on c.from_residual-in_err-llrs.result c.in_err-llrs.field-0.0 c.from_residual-in_err-llrs.ensures.1 in
    let values = rw refused.1.0 at c.soft_places.ensures in
    subst (SoftSheetOf c.args.input.now) (sym (passed ∙ ap Err refused.1.1))
    (record {
      plan = c.in_ok-plan.plan;
      own = plan-of c.args.input.now c.in_ok-block.block c.in_ok-plan.plan c.request.result c.try_from.result
          file made c.try_from.ensures c.request.ensures;
      refused = verdict-of c.in_ok-plan.plan c.args.input.now c.in_ok-block.block.fields.values.body.now refused.0
          file.1.values-field.body values;
    })

pub returns : goal.returns
returns c =
    let file = rw (ok-before c.examine.result c.map_err.result _ c.in_ok-block.block c.map_err.ensures.cases c.in_ok-block.was) at c.examine.ensures in
    let made = ok-before c.try_from.result c.map_err-2.result _ c.in_ok-plan.plan c.map_err-2.ensures.cases c.in_ok-plan.was in
    let places = rw (ok-before c.soft_places.result c.map_err-3.result _ c.in_ok-llrs.llrs c.map_err-3.ensures.cases c.in_ok-llrs.was) at c.soft_places.ensures in (
      plan-of c.args.input.now c.in_ok-block.block c.in_ok-plan.plan c.request.result c.try_from.result
          file made c.try_from.ensures c.request.ensures,
      softs-of c.in_ok-plan.plan c.args.input.now c.in_ok-block.block.fields.values.body.now c.in_ok-llrs.llrs
          file.1.values-field.body places.1,
    )
