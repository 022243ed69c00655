use Rattle.std.proofs.Common.{◌∙◌, arith, rules}
use Rattle.std.proofs.lemmas.Bool.{eq-eqb}
use Rattle.bits.proofs.Agreement.{Words64, nothing_left, rest-decides, words-same, words-differ}
use Rattle.bits.proofs.words.agree.Goals as goal

pub returns-then-whole-a : goal.returns-then-whole-a
returns-then-whole-a c =
    eq-eqb _ _ c.if-whole-a.true
    ∙ nothing_left c.args.a.now c.args.b.now c.args.n (words-same c.args.a.now c.args.b.now _ _ c.eq.ensures c.if-eq.true)
    (omega (arith, c.requires.room, c.if-whole-a.true))

pub returns-else-whole-a : goal.returns-else-whole-a
returns-else-whole-a c =
    c.same_low.ensures
    ∙ rest-decides c.args.a.now c.args.b.now c.args.n (words-same c.args.a.now c.args.b.now _ _ c.eq.ensures c.if-eq.true)

pub returns-else-eq : goal.returns-else-eq
returns-else-eq c =
    let fa : Words64 c.args.a.now = λ k. search rules in
    let fb : Words64 c.args.b.now = λ k. search rules in
    words-differ c.args.a.now c.args.b.now c.args.n c.eq.result c.requires.long (omega arith) fa fb c.eq.ensures c.if-eq.false
