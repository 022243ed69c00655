use Rattle.std.proofs.Common.{◌≡◌, sym, refl, ap, ap₂, ◌∙◌, ⊎_elim, rules}
use Rattle.std.specs.Iterator.Adapters.{zip_first, zip_second}
use Rattle.std.specs.Slice.Iter.{iter_rest}
use Rattle.std.proofs.lemmas.List.{nil_from_length, set_past}
use Rattle.crc.specs.Spread.{order}
use Rattle.crc.proofs.Scatters.{scattered}
use Rattle.crc.proofs.Turns.{reading-start, reading-next, reading-bare, reading-short}
use Rattle.outer.specs.Order.{left}
use Rattle.outer.proofs.layout.Layout.deinterleave.Goals as goal

pub loop-bit-init : goal.loop-bit-init
loop-bit-init c =
    let kind = c.args.self.kind in
    let a = c.args.self.payload_bits in
    let bits : left (zip_first c.into_iter-bit-iterator.result) ≡ order kind a = search rules in
    let values : iter_rest (zip_second c.into_iter-bit-iterator.result) ≡ c.args.word.now = search rules in
    ap (λ bs. scattered (left (zip_first c.into_iter-bit-iterator.result)) bs c.args.payload.now) values
    ∙ reading-start kind a _ c.args.word.now c.args.payload.now c.args.self.taken c.requires.word c.requires.payload bits

pub loop-bit-preserved-then-bit-payload : goal.loop-bit-preserved-then-bit-payload
loop-bit-preserved-then-bit-payload c =
    reading-next c.in-Some.bit _ c.in-Some.value.now _ c.loop-bit.payload _ refl
    ∙ sym (ap₂ (λ ks bs. scattered ks bs c.loop-bit.payload) c.in-Some.ensures.steps.0 c.in-Some.ensures.steps.1) ∙ c.loop-bit.invariant

pub loop-bit-preserved : goal.loop-bit-preserved
loop-bit-preserved c =
    reading-next c.in-Some.bit _ c.in-Some.value.now _ c.loop-bit.payload c.loop-bit.payload
    (sym (set_past c.loop-bit.payload c.in-Some.bit c.in-Some.value.now c.if-bit-payload.false))
    ∙ sym (ap₂ (λ ks bs. scattered ks bs c.loop-bit.payload) c.in-Some.ensures.steps.0 c.in-Some.ensures.steps.1) ∙ c.loop-bit.invariant

pub returns : goal.returns
returns c =
    let bits = left (zip_first c.loop-bit.bit-iterator) in
    let values = iter_rest (zip_second c.loop-bit.bit-iterator) in
    sym (⊎_elim
    (λ e. ap (λ ks. scattered ks values c.loop-bit.payload) e.1.0 ∙ reading-bare values c.loop-bit.payload)
    (λ e. ap (λ bs. scattered bits bs c.loop-bit.payload) (nil_from_length values e.1.0) ∙ reading-short bits c.loop-bit.payload)
    c.in-None.ensures.steps)
    ∙ c.loop-bit.invariant
