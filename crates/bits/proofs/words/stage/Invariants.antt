use Rattle.std.proofs.Common.{◌≡◌, ℕ, ◌<◌, cond, ltb, length, get_or}
use Rattle.bits.specs.Blocks.{added_word}
use Rattle.bits.proofs.words.stage.Given as goal

abbrev pub invariant-loop-i : goal.invariant-loop-i
invariant-loop-i l = (j : ℕ) → j < length l.words → get_or l.words j 0 ≡ cond (ltb j l.i) (added_word l.s l.initial.words j) (get_or l.initial.words j 0)
