-- The choice over all positions is the choice over the block, and its kinds make a lawful plan. Assumes nothing.
use Rattle.std.proofs.Common.{◌≡◌, ℕ, ◌+◌, ◌≤◌, true, false, not, ltb, List, get_or, Some, sym, refl, ap, ◌∙◌, ap₂, rules}
use Rattle.std.specs.Prelude.{is_none}
use Rattle.std.proofs.lemmas.Bool.{ltb-false}
use Rattle.base.specs.declared.refusal.Refusal.TheVariants.{Crowded}
use Rattle.plan.specs.declared.kind.Kind.{Kind}
use Rattle.plan.specs.declared.kind.Kind.TheVariants.{Frozen}
use Rattle.plan.specs.Kinds.{kind_by, open_count}
use Rattle.plan.specs.Order.{mode_of, sent_by, barred_by, barred_in}
use Rattle.plan.specs.Reliability.{more_reliable}
use Rattle.plan.specs.Requests.{length_for, word_for, barred_for, kind_for, within_limits, crowded, verdict}
use Rattle.plan.proofs.Lawful.{Lawful, Matched, lawful, matched-kinds, matched-open, verdict-within}
use Rattle.plan.proofs.plan.Plan.of.Goals.{After-choose}
use Rattle.plan.proofs.plan.Plan.of.Goals as goal

within : (c : After-choose) → within_limits c.args.request.now ≡ true
within c = sym c.within_limits.ensures ∙ c.if-not-within_limits.false

matched : (c : After-choose) → Matched c.args.request.now c.new-matching.result.mode c.marks-marks.result
matched c =
    let q = c.args.request.now in
    let mode = c.new-matching.result.mode in record {
      within = within c;
      moded = c.new-matching.ensures.mode ∙ ap (λ L. mode_of q.n (q.payload + L) q.sent) c.from.ensures;
      marked = λ i. c.marks-marks.ensures i ∙ ap₂ (λ n E. sent_by mode n E i) c.new-matching.ensures.size c.new-matching.ensures.sent;
    }

crowded-is : (c : After-choose) → crowded c.args.request.now ≡ is_none c.choose.result
crowded-is c =
    let q = c.args.request.now in
    sym (c.choose.ensures.none
    ∙ ap₂ (λ m L. ltb m (q.payload + L + q.parity)) (matched-open q c.new-matching.result.mode c.marks-marks.result (matched c)) c.from.ensures)

-- once a choice is made
module _ (c : After-choose) (kinds : List Kind) (some : c.choose.result ≡ Some kinds) where
  roomy : crowded c.args.request.now ≡ false
  roomy = crowded-is c ∙ ap is_none some

  kinds-are : (i : ℕ) → get_or kinds i Frozen ≡ kind_for c.args.request.now i
  kinds-are i =
      let q = c.args.request.now in
      let chosen : (i : ℕ) → get_or kinds i Frozen ≡ kind_by more_reliable (barred_in c.marks-marks.result q.low) 1024 (q.payload + c.from.result) q.parity i =
      rw some at c.choose.ensures.chosen in
      chosen i
      ∙ ap (λ L. kind_by more_reliable (barred_in c.marks-marks.result q.low) 1024 (q.payload + L) q.parity i) c.from.ensures
      ∙ matched-kinds q c.new-matching.result.mode c.marks-marks.result (matched c) i

  law : Lawful c.args.request.now kinds
  law =
      let q = c.args.request.now in
      let enough : word_for q + q.parity ≤ open_count (barred_for q) (length_for q) =
      ltb-false (open_count (barred_for q) (length_for q)) (word_for q + q.parity) roomy in
      lawful q kinds enough kinds-are

pub returns-in_err-kinds-clause-refused : goal.returns-in_err-kinds-clause-refused
returns-in_err-kinds-clause-refused c =
    let at = (goal.at.returns-in_err-kinds-clause-refused c).After-choose in
    let none : crowded c.args.request.now ≡ true = crowded-is at ∙ ap not (sym c.in_err-kinds.ensures.variant) in
    let refused : verdict c.args.request.now ≡ Some Crowded = verdict-within c.args.request.now true (within at) none in
    search rules

pub returns-clause-granted : goal.returns-clause-granted
returns-clause-granted c =
    let at = (goal.at.returns-clause-granted c).After-choose in
    verdict-within c.args.request.now false (within at) (roomy at c.in_ok-kinds.kinds c.in_ok-kinds.ensures.ok_part)

pub returns-clause-planned : goal.returns-clause-planned
returns-clause-planned c =
    let at = (goal.at.returns-clause-planned c).After-choose in record {
      n = refl;
      payload = refl;
      checks = refl;
      sent = refl;
      low = refl;
      parity = refl;
      mode = (matched at).moded;
      kinds = kinds-are at c.in_ok-kinds.kinds c.in_ok-kinds.ensures.ok_part;
    }

pub invariant_of-result-clause-informed : goal.invariant_of-result-clause-informed
invariant_of-result-clause-informed c =
    (law (goal.at.invariant_of-result-clause-informed c).After-choose c.in_ok-kinds.kinds c.in_ok-kinds.ensures.ok_part).informed

pub invariant_of-result-clause-checked : goal.invariant_of-result-clause-checked
invariant_of-result-clause-checked c =
    (law (goal.at.invariant_of-result-clause-checked c).After-choose c.in_ok-kinds.kinds c.in_ok-kinds.ensures.ok_part).checked

pub invariant_of-result-clause-beyond : goal.invariant_of-result-clause-beyond
invariant_of-result-clause-beyond c =
    (law (goal.at.invariant_of-result-clause-beyond c).After-choose c.in_ok-kinds.kinds c.in_ok-kinds.ensures.ok_part).beyond

pub invariant_of-result-clause-unbarred : goal.invariant_of-result-clause-unbarred
invariant_of-result-clause-unbarred c = λ i h.
    let q = c.args.request.now in
    let at = (goal.at.invariant_of-result-clause-unbarred c).After-choose in
    (law at c.in_ok-kinds.kinds c.in_ok-kinds.ensures.ok_part).unbarred i
    (ap (λ m. barred_by m q.n q.sent q.low i) (sym (matched at).moded) ∙ h)

pub invariant_of-result-clause-marked : goal.invariant_of-result-clause-marked
invariant_of-result-clause-marked c = (matched (goal.at.invariant_of-result-clause-marked c).After-choose).marked
