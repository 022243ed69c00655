use Rattle.std.proofs.Common.{◌≡◌, [], ◌++◌, take, drop, sym, ◌∙◌, arith}
use Rattle.std.proofs.lemmas.List.{drop_all, take-append-drop}
use Rattle.crc.specs.Division.{added}
use Rattle.crc.proofs.Remainders.{add_step, unlike-xor}
use Rattle.outer.proofs.division.add_onto.Goals as goal

pub loop-k-preserved : goal.loop-k-preserved
loop-k-preserved c =
    add_step c.args.divisor.now c.loop-k.bits c.loop-k.k _ (omega arith) (omega arith) (unlike-xor _ _)
    ∙ c.loop-k.invariant

pub returns : goal.returns
unfolding added
returns c =
    let e : drop c.loop-k.k c.args.divisor.now ≡ [] = drop_all c.loop-k.k c.args.divisor.now (omega arith) in
    let t : take c.loop-k.k c.loop-k.bits ++ added (drop c.loop-k.k c.args.divisor.now) (drop c.loop-k.k c.loop-k.bits) ≡ c.loop-k.bits = rw e (take-append-drop c.loop-k.k c.loop-k.bits) in
    sym t ∙ c.loop-k.invariant
