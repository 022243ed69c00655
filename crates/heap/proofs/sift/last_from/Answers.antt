use Rattle.std.proofs.Common.{ℕ, ◌+◌, ◌<◌, ◌≤◌, length, sym, ◌∙◌, subst}
use Rattle.heap.specs.Shape.{NotBefore}
use Rattle.heap.proofs.Sifts.{last-here, last-before}
use Rattle.heap.proofs.sift.last_from.Goals as goal
use Rattle.heap.proofs.sift.last_from.Goals.{then-before, else-before}

pub loop-i-preserved : goal.loop-i-preserved
loop-i-preserved c =
    let xs = c.args.slots.now in
    let Last : ℕ → Type 0 = λ m. (m < length xs) × ((k : ℕ) → c.args.start ≤ k → k < c.loop-i.i + 1 → NotBefore xs m k) in
    let test = sym c.before-in-loop-i.ensures.result in
    elim c.if-before.branch [
      | then-before w ↦ subst Last (sym w.last-is) (c.loop-i-test.true, last-here xs c.args.start c.loop-i.last c.loop-i.i c.loop-i.invariant.1 (test ∙ w.if-before.true))
      | else-before w ↦ subst Last (sym w.last-is) (c.loop-i.invariant.0, last-before xs c.args.start c.loop-i.last c.loop-i.i c.loop-i.invariant.1 (test ∙ w.if-before.false))
    ]
