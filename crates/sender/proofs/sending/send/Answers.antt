-- A payload that is refused is refused under the plan of the request. Assumes nothing.
use Rattle.std.proofs.lemmas.Result.{err_from_is_err_and}
use Rattle.sender.proofs.Steps.{payload-refused}
use Rattle.sender.proofs.sending.send.Goals as goal

pub returns-in_err-word : goal.returns-in_err-word
returns-in_err-word c =
    let p = err_from_is_err_and c.from_residual-in_err-word.result c.from_residual-in_err-word.ensures.1 in
    rw (p.1, p.2)
    (payload-refused c.in_ok-plan.plan c.args.request.now c.in_err-word.field-0.0 c.in_ok-plan.ensures c.in_err-word.ensures)
