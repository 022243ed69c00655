-- Every turn adds one value onto its place. Assumes nothing.
use Rattle.std.proofs.Common.{◌≡◌, ℕ, length, subst, arith, rules}
use Rattle.plan.specs.Plans.{place_of}
use Rattle.code.specs.Recovery.{value_at}
use Rattle.code.proofs.Totals.{Added, added_none, added_more}
use Rattle.code.proofs.Recovered.{turn}
use Rattle.code.proofs.recovery.add_values.Goals as goal

pub loop-k-init : goal.loop-k-init
loop-k-init c = added_none (place_of c.args.plan.now) (value_at c.args.values.now) c.args.llrs.now

pub overflow_add-llrs : goal.overflow_add-llrs
overflow_add-llrs c =
    (turn c.args.plan.now c.args.values.now c.args.llrs.now c.loop-k.llrs c.loop-k.k c.place.result c.loop-k.invariant
    (omega arith) c.requires.start c.requires.within c.loop-k-test.true c.requires.sent (search rules) c.from.result (search rules)).fits

pub loop-k-preserved : goal.loop-k-preserved
loop-k-preserved c =
    let added = turn c.args.plan.now c.args.values.now c.args.llrs.now c.loop-k.llrs c.loop-k.k c.place.result c.loop-k.invariant
    (omega arith) c.requires.start c.requires.within c.loop-k-test.true c.requires.sent (search rules) c.from.result (search rules) in
    added_more (place_of c.args.plan.now) (value_at c.args.values.now) c.args.llrs.now c.loop-k.k c.place.result _ c.loop-k.llrs
    (omega arith) c.place.ensures.result (omega arith) added.sum c.loop-k.invariant

pub returns : goal.returns
returns c =
    let ended : c.loop-k.k ≡ length c.args.values.now = omega arith in
    subst (λ (k : ℕ). Added (place_of c.args.plan.now) (value_at c.args.values.now) c.args.llrs.now k c.loop-k.llrs) ended c.loop-k.invariant
