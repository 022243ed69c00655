-- A granted load of a cleanly received word. Assumes nothing.
use Rattle.std.proofs.Common.{◌≡◌, List, get_or, ℤ, pos, None, sym, refl, ap, ◌∙◌, subst}
use Rattle.clean.proofs.Advances.{received-word-first, received-payload-first}
use Rattle.clean.specs.Advances.{CleanWordFirst, PayloadRead}
use Rattle.clean.specs.Received.{path_of}
use Rattle.model.specs.Blocks.{meaning_of}
use Rattle.model.specs.Laws.{Hopeful}
use Rattle.outer.specs.declared.check.Judge as Judge
use Rattle.plan.specs.Plans.{block_length, payload_bits}
use Rattle.plan.specs.declared.plan.Plan.{Plan}
use Rattle.search.specs.Calls.{Decoder, Busy}
use Rattle.search.specs.Search.{load_refusal, loaded, store_of, unless_refused, reporting}
use Rattle.search.specs.Stores.{Contents, ruled}
use Rattle.search.proofs.Rules.{rules-make-a-store, rules-keep-capacity}
use Rattle.decoder.specs.Answers.{request_of}
use Rattle.decoder.specs.Firsts.{CleanFirst}
use Rattle.decoder.specs.declared.limits.Limits.{Limits}

-- after is what a granted load makes of before
pub clean-first :
    {C : Type 0} (judge : Judge.Ghosts C) (check : C) (plan : Plan) (llrs : List ℤ) (limits : Limits) (before after : Decoder Contents) → Hopeful (meaning_of judge check)
    → load_refusal (request_of judge check plan llrs limits) ≡ None
    → after ≡ (unless_refused before (load_refusal (request_of judge check plan llrs limits)) (reporting ruled (loaded ruled (store_of before) (request_of judge check plan llrs limits)))).0
    → CleanFirst plan (meaning_of judge check) llrs limits after
clean-first judge check plan llrs limits before after hopeful granted model payload word values received permitted turns fit =
    let q = request_of judge check plan llrs limits in
    let is : Busy (loaded ruled (store_of before) q) ≡ after = sym (model ∙ ap (λ r. (unless_refused before r (reporting ruled (loaded ruled (store_of before) q))).0) granted) in (
      subst (λ d. CleanWordFirst ruled d (path_of plan word) (block_length plan) turns) is (received-word-first ruled rules-make-a-store rules-keep-capacity plan (meaning_of judge check) word values (λ k. get_or llrs k (pos 0)) hopeful received.received (store_of before) q refl granted permitted turns fit),
      subst (λ d. PayloadRead ruled d payload (block_length plan) (payload_bits plan) turns) is (received-payload-first ruled rules-make-a-store rules-keep-capacity plan (meaning_of judge check) payload word values (λ k. get_or llrs k (pos 0)) hopeful received (store_of before) q refl granted permitted turns fit),
    )
