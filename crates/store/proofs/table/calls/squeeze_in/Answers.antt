use Rattle.std.proofs.Common.{◌≡◌, ◌+◌, ◌<◌, ◌≤◌, true, length, drop, sym, ap, ◌∙◌, arith}
use Rattle.std.proofs.lemmas.List.{drop_all, drop-drop, drop-set-lt, take_all}
use Rattle.store.specs.Order.{before}
use Rattle.store.specs.Ordered.{inserted, in_order}
use Rattle.store.proofs.Inserts.{in-order-drop}
use Rattle.store.proofs.Tables.{squeeze-more}
use Rattle.store.proofs.table.calls.squeeze_in.Goals as goal

pub loop-slot-preserved : goal.loop-slot-preserved
loop-slot-preserved c =
    let i = c.loop-slot.slot-index in
    let xs = c.loop-slot.slots in
    let rest = c.loop-slot.invariant.1 in
    let lt : i < length xs = omega arith in
    let later : i < i + 1 = omega arith in
    let ordered : in_order before (drop i xs) ≡ true = ap (in_order before) rest ∙ in-order-drop before i c.args.slots.now c.requires.ordered in (
      squeeze-more before _ xs i c.loop-slot.last _ c.in_turn.result.0 c.in_turn.result.1 lt ordered c.in_turn.ensures.first c.in_turn.ensures.second c.loop-slot.invariant.0,
      drop-set-lt (i + 1) xs i c.in_turn.result.0 later ∙ sym (drop-drop 1 i xs) ∙ ap (drop 1) rest ∙ drop-drop 1 i c.args.slots.now,
    )

pub returns : goal.returns
unfolding inserted
returns c =
    let xs = c.loop-slot.slots in
    let i = c.loop-slot.slot-index in
    let end : length xs ≤ i = omega arith in
    sym (rw (take_all i xs end, drop_all i xs end) at c.loop-slot.invariant.0)
