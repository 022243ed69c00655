-- Every turn of the walk settles one rung. Assumes nothing.
use Rattle.std.proofs.Common.{◌≡◌, ℕ, [], ◌∷◌, ◌++◌, ◌≤◌, true, false, not, leb, ltb, get_or, sym, ap, ◌∙◌, ap₂, subst, inl, inr, rules}
use Rattle.std.specs.Prelude.{is_none}
use Rattle.std.specs.Bool.{then_some}
use Rattle.std.proofs.lemmas.Bool.{or_from, or_left, or_right, le-ltb, lt-ltb, le-leb, lt-leb, cases_lt}
use Rattle.plan.specs.Order.{barred_in}
use Rattle.plan.specs.Reliability.{ladder}
use Rattle.plan.proofs.Walk.{Walked, Leaves, leaves-ladder, last-below, leaves-open, leaves-barred, leaves-none, walked-most, walked_all, walked-count}
use Rattle.plan.proofs.choice.choose.Goals.{In-Some, After-then_some}
use Rattle.plan.proofs.choice.choose.Goals as goal

pub loop-i-init : goal.loop-i-init
unfolding ladder
loop-i-init c =
    rw c.into_iter-i-iterator.ensures.into_iter_gives
    (rw c.rev-i-items.ensures.source
    (rw c.iter.ensures.rest (leaves-ladder (barred_in c.args.marks.now c.args.low) c.args.quota.word c.args.quota.parity)))

-- the invariant, once the iterator has given a position
given : (c : In-Some) → Leaves (barred_in c.args.marks.now c.args.low) c.args.quota.word c.args.quota.parity
    (c.next.new.self.iter.rest.now ++ c.in-Some.field-0.now ∷ []) c.loop-i.kinds c.loop-i.open
given c =
    subst (λ rest. Leaves (barred_in c.args.marks.now c.args.low) c.args.quota.word c.args.quota.parity rest c.loop-i.kinds c.loop-i.open)
    c.in-Some.ensures.steps c.loop-i.invariant

pub bounds-marks-i : goal.bounds-marks-i
bounds-marks-i c =
    last-below (barred_in c.args.marks.now c.args.low) c.args.quota.word c.args.quota.parity
    c.next.new.self.iter.rest.now c.in-Some.field-0.now c.loop-i.kinds c.loop-i.open (given (goal.at.bounds-marks-i c).In-Some)

pub overflow_add-open : goal.overflow_add-open
overflow_add-open c =
    let most : c.loop-i.open ≤ 1024 =
    walked-most (barred_in c.args.marks.now c.args.low) c.args.quota.word c.args.quota.parity
    _ c.loop-i.kinds c.loop-i.open c.loop-i.invariant.walked in
    search rules

pub loop-i-preserved-then-i-low : goal.loop-i-preserved-then-i-low
loop-i-preserved-then-i-low c =
    let marks = c.args.marks.now in
    let low = c.args.low in
    let i = c.in-Some.field-0.now in
    leaves-open (barred_in marks low) c.args.quota.word c.args.quota.parity
    c.next.new.self.iter.rest.now i c.kind_of_rank.result c.loop-i.kinds c.loop-i.open c.kind_of_rank.ensures
    (or_from (not (get_or marks i false)) (ltb i low) (ap not c.if-marks-i.true) (le-ltb i low c.if-i-low.true))
    (given (goal.at.loop-i-preserved-then-i-low c).In-Some)

pub loop-i-preserved : goal.loop-i-preserved
loop-i-preserved c =
    let marks = c.args.marks.now in
    let low = c.args.low in
    let i = c.in-Some.field-0.now in
    let shut : barred_in marks low i ≡ true =
    elim c.else-marks-i.either [
      | inl h ↦ or_right (not (get_or marks i false)) (ltb i low) (lt-ltb i low h.1)
      | inr h ↦ or_left (not (get_or marks i false)) (ltb i low) (ap not h)
    ] in
    leaves-barred (barred_in marks low) c.args.quota.word c.args.quota.parity
    c.next.new.self.iter.rest.now i c.loop-i.kinds c.loop-i.open shut (given (goal.at.loop-i-preserved c).In-Some)

-- the whole ladder has been walked
ended : (c : After-then_some) → Walked (barred_in c.args.marks.now c.args.low) c.args.quota.word c.args.quota.parity 0 c.loop-i.kinds c.loop-i.open
ended c =
    leaves-none (barred_in c.args.marks.now c.args.low) c.args.quota.word c.args.quota.parity
    c.loop-i.i-iterator.iter.rest.now c.loop-i.kinds c.loop-i.open c.in-None.ensures.steps.0 c.loop-i.invariant

is_none-then_some : {X : Type 0} (m n : ℕ) (x : X) → is_none (then_some (leb m n) x) ≡ ltb n m
is_none-then_some m n x =
    elim (cases_lt n m) [
      | inl s ↦ ap (λ b. is_none (then_some b x)) (lt-leb m n s) ∙ sym (lt-ltb n m s)
      | inr s ↦ ap (λ b. is_none (then_some b x)) (le-leb m n s) ∙ sym (le-ltb n m s)
    ]

pub returns-clause-chosen : goal.returns-clause-chosen
returns-clause-chosen c =
    let all = walked_all (barred_in c.args.marks.now c.args.low) c.args.quota.word c.args.quota.parity c.loop-i.kinds c.loop-i.open (ended c) in
    search rules

pub returns-clause-none : goal.returns-clause-none
returns-clause-none c =
    ap is_none c.then_some.ensures
    ∙ is_none-then_some c.total.result c.loop-i.open c.loop-i.kinds
    ∙ ap₂ ltb
    (walked-count (barred_in c.args.marks.now c.args.low) c.args.quota.word c.args.quota.parity c.loop-i.kinds c.loop-i.open (ended c))
    c.total.ensures
