-- Each step is that of the request. Assumes nothing.
use Rattle.std.proofs.Common.{ℕ, List, map, ap, ◌∙◌}
use Rattle.std.proofs.lemmas.Result.{err_from_is_err_and}
use Rattle.std.specs.List.{range_with_len}
use Rattle.block.specs.Checks.{finished_by}
use Rattle.code.specs.Laying.{bits_of, laid_at}
use Rattle.plan.specs.Plans.{block_length}
use Rattle.sender.proofs.Steps.{laid-list, code_is, sent_is, code-fails}
use Rattle.sender.proofs.sending.spelled.Goals as goal

pub returns-in_err-sent : goal.returns-in_err-sent
returns-in_err-sent c =
    let coded = code_is c.args.plan c.args.request.now c.args.word c.transform-code.result c.requires.laid c.transform-code.ensures in
    let p = err_from_is_err_and c.from_residual-in_err-sent.result c.from_residual-in_err-sent.ensures.1 in
    rw (p.1, p.2)
    (code-fails c.args.plan c.args.request.now c.transform-code.result c.in_err-sent.field-0.0 c.requires.planned coded c.in_err-sent.ensures)

pub returns : goal.returns
returns c =
    let coded = code_is c.args.plan c.args.request.now c.args.word c.transform-code.result c.requires.laid c.transform-code.ensures in
    record {
      plan = c.requires.planned;
      finished = c.in_ok-finished.ensures ∙ ap (λ (xs : List ℕ). finished_by c.args.request.now.plan.check (bits_of xs)) c.as_slice.ensures.value;
      laid = c.in_ok-laid.ensures ∙ ap (λ (n : ℕ). map (laid_at c.args.word) (range_with_len 0 n)) c.length.ensures.result
          ∙ laid-list c.args.plan c.args.request.now c.args.word (block_length c.args.plan) c.requires.laid 0;
      code = coded;
      sent = sent_is c.args.plan c.args.request.now c.transform-code.result _ coded c.in_ok-sent.ensures;
    }
