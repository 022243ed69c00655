use Rattle.std.proofs.Common.{◌≡◌, ◌+◌, ◌∙◌, subst, ap₂, arith, w32, SFits, rules}
use Rattle.std.proofs.lemmas.Int.{to_z-of_z}
use Rattle.bits.specs.Row.{row_bit}
use Rattle.cost.specs.Block.{llr_of}
use Rattle.cost.specs.Values.{contradicts}
use Rattle.cost.specs.Path.{cost}
use Rattle.cost.proofs.Path.{cost-more, cost-fits}
use Rattle.cost.proofs.Descent.{Walked, walked_none, walked_more}
use Rattle.cost.proofs.soft.Soft.path_cost.Goals as goal

pub loop-i-init : goal.loop-i-init
loop-i-init c = walked_none _ _ _ _

more : (c : goal.After-contradiction-total) →
    c.loop-i.total + c.contradiction-total.result
    ≡ cost c.args.self.now.n (llr_of c.args.self.now) (row_bit c.args.row.now) (c.loop-i.i + 1)
more c =
    let fits : SFits w32 c.decision.result = search rules in
    cost-more c.args.self.now.n _ _ c.loop-i.i c.loop-i.total c.contradiction-total.result c.loop-i.invariant.sum
    (c.contradiction-total.ensures ∙ ap₂ contradicts (to_z-of_z w32 _ fits ∙ c.decision.ensures.value) c.get.ensures.result)

pub overflow_add-total : goal.overflow_add-total
overflow_add-total c =
    let most =
    cost-fits c.args.self.now.n (llr_of c.args.self.now) (row_bit c.args.row.now) c.args.self.now.size
    (λ k _. c.args.self.now.bounded k) (c.loop-i.i + 1) (omega arith) in
    let sum = more c in
    omega arith

pub loop-i-preserved : goal.loop-i-preserved
loop-i-preserved c =
    walked_more c.args.self.now.n _ _ c.loop-i.i c.loop-i.total _ _ c.loop-i.scratch _ (more c) c.decision.ensures.levels
    c.decision.ensures.around c.loop-i.invariant

pub returns : goal.returns
returns c =
    let all : c.loop-i.i ≡ c.args.len = omega arith in
    let walked =
    subst
    (λ i. Walked c.args.self.now.n (llr_of c.args.self.now) (row_bit c.args.row.now) i c.loop-i.total c.args.scratch.now c.loop-i.scratch)
    all c.loop-i.invariant in
    record { result = walked.sum; levels = walked.levels; untouched = walked.untouched; around = walked.around }
