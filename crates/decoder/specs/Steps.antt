-- What the parts of a step are asked and keep. Assumes nothing.
use Rattle.std.specs.Prelude.{◌≡◌, ℕ, ◌+◌, ◌<◌, Bool, List}
use Rattle.outer.specs.declared.check.Judge as Judge
use Rattle.store.specs.declared.store.Store as Store
use Rattle.cost.specs.Rows.{path_at}
use Rattle.plan.specs.Plans.{log_length}
use Rattle.store.specs.declared.candidate.Candidate.{Candidate}
use Rattle.search.specs.Lists.{Each}
use Rattle.search.specs.Paths.{child}
use Rattle.model.specs.Blocks.{path_cost}
use Rattle.model.specs.Reading.{first_bits}
use Rattle.decoder.specs.Blocks.{plan_in, llr_in}
use Rattle.decoder.specs.States.{Sound}
use Rattle.decoder.specs.declared.state.State.{State}
use Rattle.decoder.specs.declared.phase.Phase.TheVariants as phase

abbrev pub path_of : {S C : Type 0} → State S C → Candidate → List Bool
path_of d c = first_bits (path_at d.rows c.row) c.length

-- a step may be made: the state is sound and searches, and steps and failures are left
pub record MayStep {S C : Type 0} (members : Store.Ghosts S) (judge : Judge.Ghosts C) (d : State S C) : Type 0 where
  pub sound : Sound members judge d
  pub searching : d.phase ≡ phase.Searching
  pub steps : d.counts.steps < d.counts.most_steps
  pub failures : d.counts.failures < d.counts.most_failures

-- the next serial is later than all kept ones, and another may follow it
pub record Ready {S C : Type 0} (members : Store.Ghosts S) (judge : Judge.Ghosts C) (d : State S C) : Type 0 where
  pub phase : d.phase ≡ phase.Searching
  pub later : Each (λ k. k.serial < d.counts.serial) (members.kept d.store)
  pub fits : d.counts.serial < 4294967295

-- the children of c may be put: two serials are left, and c has its path's cost
pub record MayPut {S C : Type 0} (members : Store.Ghosts S) (judge : Judge.Ghosts C) (d : State S C) (c : Candidate) : Type 0 where
  pub ready : Ready members judge d
  pub serials : d.counts.serial < 4294967294
  pub metric : c.metric ≡ path_cost (log_length (plan_in d.block)) (llr_in d.block) (path_of d c)

-- the child of c that goes on with the bit costs `more` than c has for its metric
pub record Costs {S C : Type 0} (d : State S C) (c : Candidate) (bit : Bool) (more : ℕ) : Type 0 where
  pub cost : c.metric + more ≡ path_cost (log_length (plan_in d.block)) (llr_in d.block) (child (path_of d c) bit)
  pub fits : c.metric + more < 4294967296

-- what no part of a step touches
pub record Framed {S C : Type 0} (before after : State S C) : Type 0 where
  pub check : after.check ≡ before.check
  pub block : after.block ≡ before.block
  pub most_failures : after.counts.most_failures ≡ before.counts.most_failures
  pub most_steps : after.counts.most_steps ≡ before.counts.most_steps
  pub steps : after.counts.steps ≡ before.counts.steps

-- nor the putting of children
pub record Searched {S C : Type 0} (before after : State S C) : Type 0 where
  pub framed : Framed before after
  pub phase : after.phase ≡ before.phase
  pub failures : after.counts.failures ≡ before.counts.failures
