-- What is known of scratch from one decision value to the next. Assumes nothing.
use Rattle.std.specs.Prelude.{ℕ, List, ℤ, Option}
use Rattle.std.specs.Option.{ForSome}
use Rattle.bits.specs.Row.{row_bit}
use Rattle.cost.specs.Levels.{Levels}
use Rattle.cost.specs.declared.memo.Memo.{Memo}

-- scratch has all levels of the position and the path that are remembered, if any are
abbrev pub Held : ℕ → (ℕ → ℤ) → Option Memo → List ℤ → Type 0
Held n llr last xs = ForSome last (λ memo. Levels n llr (row_bit memo.path) memo.at 0 xs)
