-- Every turn settles one information position. Assumes nothing.
use Rattle.std.proofs.Common.{ℕ, sym, ◌∙◌, subst, rules, arith}
use Rattle.std.proofs.lemmas.Iterator.{YieldsList-from_range, YieldsList-from_slice, YieldsList-from_zip}
use Rattle.std.proofs.lemmas.Iterator.Consumers.{YieldsList-at, YieldsList-from_filter, YieldsList-turn, YieldsList-end}
use Rattle.std.proofs.lemmas.List.{length_push}
use Rattle.bits.specs.Row.{row_bit}
use Rattle.plan.specs.Kinds.{is_information}
use Rattle.plan.specs.Plans.{kind_at, block_length}
use Rattle.code.proofs.Positions.{Placed, placed-none, placed-more, placed-all}
use Rattle.code.proofs.laid.positions.place_word.Goals as goal

pub loop-i-init : goal.loop-i-init
loop-i-init c = placed-none (kind_at c.args.plan.now) c.args.word.now (row_bit c.zero-row.result) c.zero-row.ensures

pub loop-i-preserved : goal.loop-i-preserved
loop-i-preserved c =
    let n = block_length c.args.plan.now in
    let kinds = kind_at c.args.plan.now in
    let turn = YieldsList-turn
    (YieldsList-at c.into_iter-i-iterator.ensures.into_iter_gives
    (YieldsList-from_zip
    (YieldsList-at c.zip-i-items.ensures.first
    (YieldsList-from_filter _ (λ i. is_information (kinds i)) (YieldsList-from_range 0 n n (cc) (omega arith)) c.filter-positions.ensures.closure (λ x b q k. search rules)))
    (YieldsList-from_slice c.args.word.now (cc))))
    c.loop-i.yielded _ c.loop-i.yielded_by _ c.next.new.self (c.in-Some.i, c.in-Some.bit) c.in-Some.is c.next.ensures.steps in
    let limits = c.length.ensures.limits in
    let whole = c.length.ensures.result in
    subst (λ (k : ℕ). Placed kinds c.args.word.now k (row_bit c.set.new.self)) (sym (length_push c.loop-i.yielded (c.in-Some.i, c.in-Some.bit)))
    (placed-more kinds c.args.word.now n _ c.in-Some.i c.in-Some.bit.now (row_bit c.loop-i.row) (row_bit c.set.new.self) (omega arith)
    turn.0 turn.1 c.loop-i.invariant c.set.ensures)

pub returns : goal.returns
returns c =
    let n = block_length c.args.plan.now in
    let kinds = kind_at c.args.plan.now in
    let ended = YieldsList-end
    (YieldsList-at c.into_iter-i-iterator.ensures.into_iter_gives
    (YieldsList-from_zip
    (YieldsList-at c.zip-i-items.ensures.first
    (YieldsList-from_filter _ (λ i. is_information (kinds i)) (YieldsList-from_range 0 n n (cc) (omega arith)) c.filter-positions.ensures.closure (λ x b q k. search rules)))
    (YieldsList-from_slice c.args.word.now (cc))))
    c.loop-i.yielded _ c.loop-i.yielded_by _ c.next.new.self c.in-None.is c.next.ensures.steps in
    placed-all kinds c.args.word.now n _ (row_bit c.loop-i.row) c.args.plan.now.beyond ended.1 (c.requires.whole ∙ sym c.args.plan.now.informed) c.loop-i.invariant
