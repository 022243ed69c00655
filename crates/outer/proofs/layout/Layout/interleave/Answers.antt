use Rattle.std.proofs.Common.{◌≡◌, ◌+◌, ◌≤◌, length, slice_set, sym, ap, ◌∙◌, inl, arith, rules}
use Rattle.std.specs.Iterator.Adapters.{enumerate_source, enumerate_count}
use Rattle.crc.specs.Spread.{width, longest, order}
use Rattle.crc.proofs.Interleaving.{order-long}
use Rattle.crc.proofs.Tables.{word-bounded}
use Rattle.crc.proofs.Turns.{finishing, finishing-start, finishing-inside, finishing-next, finishing-done}
use Rattle.outer.specs.Order.{left}
use Rattle.outer.proofs.layout.Layout.interleave.Goals as goal

pub loop-place-init : goal.loop-place-init
loop-place-init c =
    let kind = c.args.self.kind in
    let a = c.args.self.payload_bits in
    let bits : left (enumerate_source c.into_iter-place-iterator.result) ≡ order kind a = search rules in
    let none : enumerate_count c.into_iter-place-iterator.result ≡ 0 = search rules in
    let few : length (left (enumerate_source c.into_iter-place-iterator.result)) ≡ a + width kind = ap length bits ∙ order-long kind a c.args.self.taken in (
      (tt, tt, inl (omega (arith, c.args.self.taken, word-bounded kind))),
      tt,
      ap (λ n. finishing kind c.args.payload.now c.args.word.now n (left (enumerate_source c.into_iter-place-iterator.result))) none
          ∙ finishing-start kind c.args.payload.now c.args.word.now _ (bits ∙ ap (order kind) (sym c.requires.payload)),
    )

pub bounds-word-place : goal.bounds-word-place
bounds-word-place c =
    let kind = c.args.self.kind in
    let payload = c.args.payload.now in
    let place = enumerate_count c.loop-place.place-iterator in
    let steps = c.in-Some.ensures.steps in
    omega (
      arith,
      steps.1,
      finishing-inside kind payload c.loop-place.word place c.in-Some.bit _ (omega (arith, c.args.self.taken)) (omega arith)
          (sym (ap (finishing kind payload c.loop-place.word place) steps.0) ∙ c.loop-place.invariant.2),
    )

pub loop-place-preserved : goal.loop-place-preserved
loop-place-preserved c =
    let kind = c.args.self.kind in
    let payload = c.args.payload.now in
    let place = enumerate_count c.loop-place.place-iterator in
    let steps = c.in-Some.ensures.steps in
    let inside = bounds-word-place c in
    let written : slice_set c.loop-place.word c.in-Some.place c.value_of.result ≡ slice_set c.loop-place.word place c.value_of.result =
    ap (λ n. slice_set c.loop-place.word n c.value_of.result) steps.1 in (
      search rules,
      search rules,
      ap (λ n. finishing kind payload (slice_set c.loop-place.word c.in-Some.place c.value_of.result) n (left (enumerate_source c.next.new.self))) steps.2
          ∙ finishing-next kind payload c.loop-place.word _ place c.in-Some.bit _ c.value_of.result (omega (arith, steps.1)) c.value_of.ensures written
          (sym (ap (finishing kind payload c.loop-place.word place) steps.0) ∙ c.loop-place.invariant.2),
    )

pub returns : goal.returns
returns c =
    let kind = c.args.self.kind in
    let payload = c.args.payload.now in
    let taken : length payload ≤ longest kind = omega (arith, c.args.self.taken) in
    finishing-done kind payload c.loop-place.word (enumerate_count c.loop-place.place-iterator) taken (omega arith)
    (sym (ap (finishing kind payload c.loop-place.word (enumerate_count c.loop-place.place-iterator)) c.in-None.ensures.steps.0.0) ∙ c.loop-place.invariant.2)
