-- A field without a fault has a sound body. Assumes nothing.
use Rattle.std.proofs.Common.{◌≡◌, ℕ, ◌+◌, ◌≤◌, true, List, length, None, arith, length-drop, length-take}
use Rattle.std.proofs.lemmas.Bool.Decides.{nat_tests}
use Rattle.block.specs.declared.due.Due.{Due}
use Rattle.block.specs.Fields.{length_of, sound}
use Rattle.block.specs.File.{body_at, field_fault}

pub body-length : (input : List ℕ) (at : ℕ) (due : Due) → at + 3 + length_of due ≤ length input → length (body_at input at due) ≡ length_of due
body-length input at due h = simp (length-take, length-drop) (omega arith)

pub sound-body : (input : List ℕ) (at : ℕ) (due : Due) → field_fault input at due ≡ None → sound due (body_at input at due) ≡ true
sound-body input at due h =
    let whole = body-length input at due in
    grind (arith, nat_tests)
