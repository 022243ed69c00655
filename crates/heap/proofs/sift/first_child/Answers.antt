use Rattle.std.proofs.Common.{sym, ◌∙◌, arith}
use Rattle.heap.proofs.Sifts.{right-first, left-first}
use Rattle.heap.proofs.sift.first_child.Goals as goal
use Rattle.heap.proofs.sift.first_child.Goals.{else-left-slots-via-then-left-slots+else-before, else-left-slots-via-else-left-slots}

pub returns-then-before : goal.returns-then-before
returns-then-before c = right-first _ _ _ c.if-left-slots.true (sym c.if-before.ensures.result)

pub returns-else-left-slots : goal.returns-else-left-slots
returns-else-left-slots c =
    elim c.else-left-slots.branch [
      | else-left-slots-via-then-left-slots+else-before w ↦ left-first _ _ _ c.requires.child (λ _. sym w.before-then-left-slots.ensures.result ∙ w.if-before.false)
      | else-left-slots-via-else-left-slots w ↦ left-first _ _ _ c.requires.child (λ h. absurd (let b : ⊥ = omega (arith, w.if-left-slots.false) in b))
    ]
