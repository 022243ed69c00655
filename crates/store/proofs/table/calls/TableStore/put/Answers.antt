use Rattle.std.proofs.Common.{◌≡◌, ◌<◌, List, [], ◌∷◌, ◌++◌, length, Some, ap, sym, ◌∙◌, rules, arith}
use Rattle.store.specs.declared.candidate.Candidate.{Candidate}
use Rattle.std.proofs.lemmas.Grind.{common_steps}
use Rattle.store.specs.Lesser.{lesser_of}
use Rattle.store.specs.Meaning.{lowered, metric_of}
use Rattle.store.specs.Order.{before}
use Rattle.store.specs.Ordered.{in_order, inserted}
use Rattle.store.specs.Slots.{used, room, lowest}
use Rattle.store.proofs.Candidates.{strict}
use Rattle.store.proofs.Inserts.{in-order-front, in-order-inserted, full-sheds, room-sheds}
use Rattle.store.proofs.table.calls.TableStore.put.Goals as goal

pub invariant_of-self : goal.invariant_of-self
invariant_of-self c =
    let t = c.args.self.now in
    let ys : List Candidate = used c.rearrange-last.new.self in
    let squeezed : ys ++ c.rearrange-last.result ∷ [] ≡ inserted before (used t.slots) c.args.c = search rules in
    record { ordered = ap (in_order before) c.shed.ensures.used ∙ in-order-front before ys (c.rearrange-last.result ∷ []) (ap (in_order before) squeezed ∙ in-order-inserted before strict _ c.args.c t.ordered) }

pub invariant_of-self-else-is_full : goal.invariant_of-self-else-is_full
invariant_of-self-else-is_full c =
    let t = c.args.self.now in
    let ys : List Candidate = used c.rearrange-last.new.self in
    let squeezed : ys ++ c.rearrange-last.result ∷ [] ≡ inserted before (used t.slots) c.args.c = search rules in
    record { ordered = ap (in_order before) (c.push.ensures.used ∙ squeezed) ∙ in-order-inserted before strict _ c.args.c t.ordered }

pub returns-then-is_full-clause-floor : goal.returns-then-is_full-clause-floor
unfolding lowered
returns-then-is_full-clause-floor c =
    let t = c.args.self.now in
    let ys : List Candidate = used c.rearrange-last.new.self in
    let squeezed : inserted before (used t.slots) c.args.c ≡ ys ++ c.rearrange-last.result ∷ [] = search rules in
    let full : length ys ≡ room t.slots = search rules in
    c.shed.ensures.lowest ∙ ap (λ f. lesser_of f (Some c.rearrange-last.result.metric)) c.rearrange-last.ensures.lowest
    ∙ sym (ap (lowered metric_of (lowest t.slots)) (full-sheds _ ys c.rearrange-last.result (room t.slots) full squeezed))

pub returns-else-is_full-clause-floor : goal.returns-else-is_full-clause-floor
unfolding lowered
returns-else-is_full-clause-floor c =
    let t = c.args.self.now in
    let fits : length (used t.slots) < room t.slots = grind (arith, common_steps) in
    c.push.ensures.lowest ∙ c.rearrange-last.ensures.lowest ∙ sym (ap (lowered metric_of (lowest t.slots)) (room-sheds before _ c.args.c (room t.slots) fits))
