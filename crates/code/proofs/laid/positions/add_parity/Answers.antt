-- Every turn settles one parity position. Assumes nothing.
use Rattle.std.proofs.Common.{ℕ, refl, sym, subst, rules, arith}
use Rattle.std.proofs.lemmas.Iterator.{YieldsList-from_range}
use Rattle.std.proofs.lemmas.Iterator.Consumers.{YieldsList-at, YieldsList-from_filter, YieldsList-turn, YieldsList-end}
use Rattle.std.proofs.lemmas.List.{length_push}
use Rattle.bits.specs.Row.{row_bit}
use Rattle.plan.specs.Kinds.{is_parity}
use Rattle.plan.specs.Plans.{kind_at, block_length}
use Rattle.code.proofs.Positions.{Summed, summed-none, summed-more, summed-all}
use Rattle.code.proofs.laid.positions.add_parity.Goals as goal

pub loop-i-init : goal.loop-i-init
loop-i-init c = summed-none (kind_at c.args.plan.now) (row_bit c.args.row.now) (row_bit c.args.row.now) (λ j. refl)

pub loop-i-preserved : goal.loop-i-preserved
loop-i-preserved c =
    let n = block_length c.args.plan.now in
    let kinds = kind_at c.args.plan.now in
    let turn = YieldsList-turn
    (YieldsList-at c.into_iter-i-iterator.ensures.into_iter_gives
    (YieldsList-from_filter _ (λ i. is_parity (kinds i)) (YieldsList-from_range 0 n n (cc) (omega arith)) c.filter-i-items.ensures.closure (λ x b q k. search rules)))
    c.loop-i.yielded _ c.loop-i.yielded_by _ c.next.new.self c.in-Some.i c.in-Some.is c.next.ensures.steps in
    let limits = c.length.ensures.limits in
    let whole = c.length.ensures.result in
    subst (λ (k : ℕ). Summed kinds (row_bit c.args.row.now) k (row_bit c.set.new.self)) (sym (length_push c.loop-i.yielded c.in-Some.i))
    (summed-more kinds (row_bit c.args.row.now) n _ c.in-Some.i c.parity_sum-sum.result (row_bit c.loop-i.row) (row_bit c.set.new.self) (omega arith)
    turn.0 turn.1 c.loop-i.invariant c.parity_sum-sum.ensures c.set.ensures)

pub returns : goal.returns
returns c =
    let n = block_length c.args.plan.now in
    let kinds = kind_at c.args.plan.now in
    let ended = YieldsList-end
    (YieldsList-at c.into_iter-i-iterator.ensures.into_iter_gives
    (YieldsList-from_filter _ (λ i. is_parity (kinds i)) (YieldsList-from_range 0 n n (cc) (omega arith)) c.filter-i-items.ensures.closure (λ x b q k. search rules)))
    c.loop-i.yielded _ c.loop-i.yielded_by _ c.next.new.self c.in-None.is c.next.ensures.steps in
    summed-all kinds (row_bit c.args.row.now) n _ (row_bit c.loop-i.row) c.args.plan.now.beyond ended.1 c.loop-i.invariant
