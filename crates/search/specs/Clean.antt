-- A clean word comes first: it is shown at cost 0 after N + 1 steps, if so many are permitted, however they are divided
-- among advances. Assumes of stores and blocks their laws alone.
use Rattle.std.specs.Prelude.{◌≡◌, ℕ, suc, ◌+◌, ◌<◌, Bool, true, List, ◌∷◌, ◌++◌, Some, None, ◌≢◌}
use Rattle.search.specs.Paths.{Block, BlockLaws, Admissible, lawful, child}
use Rattle.search.specs.Stores.{Store}
use Rattle.search.specs.Calls.{Request, Loaded, Met, ShownWord, Paused}
use Rattle.search.specs.Search.{report_of, load_refusal, loaded, advanced}

-- The word costs nothing, and each lawful bit that leaves it costs something.
pub record Clean (b : Block) (word : List Bool) : Type 0 where
  pub admissible : Admissible b word
  pub free : b.cost word ≡ 0
  pub apart : (p : List Bool) (u : Bool) (r : List Bool) → word ≡ p ++ (u ∷ r) → (v : Bool) → (v ≢ u) → lawful b (child p v) ≡ true → 0 < b.cost (child p v)

-- an advance shows the word at cost 0 after n steps
pub record ShowsFree {S : Type 0} (m : Store S) (word : List Bool) (n : ℕ) (end : Met × Loaded S) : Type 0 where
  pub met : end.0 ≡ ShownWord word
  pub metric : (report_of m end.1).shown ≡ Some 0
  pub steps : (report_of m end.1).steps ≡ n

-- the first advance after the load, if it is long enough
abbrev pub CleanComesFirst : {S : Type 0} → Store S → Type 0
CleanComesFirst {S} m = (s : S) (q : Request) (word : List Bool) → load_refusal q ≡ None → BlockLaws q.block → Clean q.block word → q.block.size < q.steps → (budget : ℕ) → q.block.size < budget → ShowsFree m word (suc q.block.size) (advanced m budget (loaded m s q))

abbrev pub Pauses : {S : Type 0} → Store S → ℕ → Loaded S → Type 0
Pauses m budget d = (advanced m budget d).0 ≡ Paused

-- two advances do what one of both budgets does
abbrev pub DoAsOne : {S : Type 0} → Store S → ℕ → ℕ → Loaded S → Type 0
DoAsOne m first second d = advanced m (first + second) d ≡ advanced m second (advanced m first d).1
