use Rattle.std.proofs.Common.{◌≡◌, sym, ap, ap₂, ◌∙◌, ⊎_elim, rules}
use Rattle.std.specs.Iterator.Adapters.{zip_first, zip_second}
use Rattle.std.specs.Slice.Iter.{iter_rest}
use Rattle.std.proofs.lemmas.List.{nil_from_length}
use Rattle.crc.specs.Spread.{order}
use Rattle.crc.proofs.Turns.{judged, judged-start, judged-next, judged-broken, judged-bare, judged-short}
use Rattle.outer.specs.Order.{left}
use Rattle.outer.proofs.layout.Layout.breaks.Goals as goal

pub loop-value-init : goal.loop-value-init
loop-value-init c =
    let kind = c.args.self.kind in
    let a = c.args.self.payload_bits in
    let bits : left (zip_second c.into_iter-value-iterator.result) ≡ order kind a = search rules in
    let values : iter_rest (zip_first c.into_iter-value-iterator.result) ≡ c.args.beginning.now = search rules in
    ap (judged kind a 0 (left (zip_second c.into_iter-value-iterator.result))) values ∙ judged-start kind a _ _ c.args.self.taken bits

pub loop-value-preserved : goal.loop-value-preserved
loop-value-preserved c =
    let kind = c.args.self.kind in
    let a = c.args.self.payload_bits in
    judged-next kind a c.loop-value.sums c.entered-sums.result c.in-Some.bit c.in-Some.value.now c.disagrees.result _ _
    c.disagrees.ensures c.if-disagrees.false c.entered-sums.ensures
    ∙ sym (ap₂ (judged kind a c.loop-value.sums) c.in-Some.ensures.steps.1 c.in-Some.ensures.steps.0) ∙ c.loop-value.invariant

pub returns-then-disagrees : goal.returns-then-disagrees
returns-then-disagrees c =
    let kind = c.args.self.kind in
    let a = c.args.self.payload_bits in
    sym (judged-broken kind a c.loop-value.sums c.in-Some.bit c.in-Some.value.now c.disagrees.result _ _ c.disagrees.ensures c.if-disagrees.true)
    ∙ sym (ap₂ (judged kind a c.loop-value.sums) c.in-Some.ensures.steps.1 c.in-Some.ensures.steps.0) ∙ c.loop-value.invariant

pub returns : goal.returns
returns c =
    let kind = c.args.self.kind in
    let a = c.args.self.payload_bits in
    let bits = left (zip_second c.loop-value.value-iterator) in
    let values = iter_rest (zip_first c.loop-value.value-iterator) in
    sym (⊎_elim
    (λ e. ap (judged kind a c.loop-value.sums bits) (nil_from_length values e.1.0) ∙ judged-short kind a c.loop-value.sums bits)
    (λ e. ap (λ ks. judged kind a c.loop-value.sums ks values) e.1.0 ∙ judged-bare kind a c.loop-value.sums values)
    c.in-None.ensures.steps)
    ∙ c.loop-value.invariant
