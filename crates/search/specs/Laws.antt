-- What a program that follows the search leans on between calls: an advance keeps to its budget, and kept candidates
-- stay exact. Assumes nothing.
use Rattle.std.specs.Prelude.{◌≡◌, ℕ, ◌+◌, ◌<◌, ◌≤◌, true, length}
use Rattle.search.specs.Lists.{Each}
use Rattle.search.specs.Paths.{Block, lawful}
use Rattle.search.specs.Stores.{Candidate, Store}
use Rattle.search.specs.Calls.{Call, Loaded, Decoder, Blank, Busy}
use Rattle.search.specs.Search.{step, advanced, called}
use Rattle.search.specs.Records.{LawfulCall}

-- an advance of the budget makes no more than so many steps
abbrev pub MakesAtMost : {S : Type 0} → Store S → ℕ → ℕ → Loaded S → Type 0
MakesAtMost m budget most d = (advanced m budget d).1.steps ≤ d.steps + most

-- a candidate with a lawful path, whose metric is the path's cost and whose serial was given out before `next`
pub record Exact (b : Block) (next : ℕ) (c : Candidate) : Type 0 where
  pub lawful : lawful b c.path ≡ true
  pub metric : c.metric ≡ b.cost c.path
  pub length : c.length ≡ length c.path
  pub serial : c.serial < next

abbrev pub AllExact : {S : Type 0} → Store S → Loaded S → Type 0
AllExact m d = Each (Exact d.block d.serial) (m.kept d.store)

-- of a decoder that never was loaded nothing is asked
abbrev pub Coherent : {S : Type 0} → Store S → Decoder S → Type 0
Coherent m (Blank s) = Unit {0}
Coherent m (Busy d) = AllExact m d

pub record StaysExact {S : Type 0} (m : Store S) : Type 0 where
  pub steps : (d : Loaded S) → AllExact m d → AllExact m (step m d)
  pub calls : (d : Decoder S) (c : Call) → LawfulCall c → Coherent m d → Coherent m (called m d c).0
