use Rattle.std.proofs.Common.{◌≡◌, length, [], ◌∷◌, sym, ap, ◌∙◌, rules}
use Rattle.outer.specs.Order.{left}
use Rattle.std.proofs.lemmas.List.{nil_from_length}
use Rattle.crc.specs.Spread.{struck}
use Rattle.crc.proofs.Occurrences.{struck-in, struck-out, struck-nil}
use Rattle.outer.proofs.bits.BitsIterator.next.Goals as goal

pub returns-then-bit-self-clause-steps : goal.returns-then-bit-self-clause-steps
returns-then-bit-self-clause-steps c =
    sym c.loop-bit.invariant ∙ ap (struck c.loop-bit.self.struck) (c.in-Some.ensures.cases.0 ∙ ap (λ k. k ∷ c.in-Some.others.now) (sym c.from-bit.ensures))
    ∙ struck-in c.loop-bit.self.struck c.from-bit.result c.in-Some.others.now c.if-bit-self.true

pub returns-then-bit-self-clause-goes : goal.returns-then-bit-self-clause-goes
returns-then-bit-self-clause-goes c =
    let shorter = ap length (returns-then-bit-self-clause-steps c) in
    search rules

pub loop-bit-preserved : goal.loop-bit-preserved
loop-bit-preserved c =
    sym (ap (struck c.loop-bit.self.struck) (c.in-Some.ensures.cases.0 ∙ ap (λ k. k ∷ c.in-Some.others.now) (sym c.from-bit.ensures))
    ∙ struck-out c.loop-bit.self.struck c.from-bit.result c.in-Some.others.now c.if-bit-self.false)
    ∙ c.loop-bit.invariant

pub returns-clause-steps : goal.returns-clause-steps
returns-clause-steps c =
    let none : left c.loop-bit.self ≡ [] = ap (struck c.loop-bit.self.struck) (nil_from_length c.loop-bit.self.order.now c.in_default.ensures.cases) ∙ struck-nil c.loop-bit.self.struck in
    (sym c.loop-bit.invariant ∙ none, none)
