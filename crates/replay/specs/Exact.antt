-- That the metric reported with a shown word is the sum of the soft magnitudes that its codeword contradicts.
-- Assumes nothing.
use Rattle.std.specs.Prelude.{◌≡◌, ℕ, Bool, List, [], ◌∷◌, take, drop, ℤ, pos, Some, None, Option, slice_index_or}
use Rattle.base.specs.Counts.{sum_below}
use Rattle.base.specs.Transform.{code_bit}
use Rattle.cost.specs.Values.{contradicts}
use Rattle.plan.specs.Plans.{log_length, block_length}
use Rattle.plan.specs.declared.plan.Plan.{Plan}
use Rattle.search.specs.Calls as search
use Rattle.search.specs.Promise.{EachShown}
use Rattle.search.specs.Records.{Entry, Session, recorded, session}
use Rattle.search.specs.Stores.{ruled}
use Rattle.model.specs.Blocks.{bits_of}
use Rattle.replay.specs.Replays.{Run}
use Rattle.replay.specs.declared.call.Call.{Call}
use Rattle.replay.specs.declared.call.Call.TheVariants as call

-- What a block is made from.
pub record Source : Type 0 where
  pub plan : Plan
  pub llrs : List ℤ

-- what the block loaded after a call was made from: a granted load's own plan and soft values, else what it was before
abbrev pub source_on : (values : List ℤ) → Option Source → Call → search.Answer → Option Source
source_on values before (call.Load plan at count limits) (search.Reported f) = Some (record { plan = plan; llrs = take count (drop at values) })
source_on values before (call.Load plan at count limits) (search.Refused e) = before
source_on values before (call.Load plan at count limits) (search.Advanced met f) = before
source_on values before (call.Load plan at count limits) (search.Payload bits) = before
source_on values before (call.Advance budget words) a = before
source_on values before call.Strike a = before
source_on values before (call.Word bytes) a = before
source_on values before call.Report a = before

-- the same after calls with their record, oldest first
abbrev pub source_from : (values : List ℤ) → Option Source → List Call → List Entry → Option Source
source_from values before [] es = before
source_from values before (c ∷ cs) [] = before
source_from values before (c ∷ cs) (e ∷ es) = source_from values (source_on values before c e.answer) cs es

-- the soft magnitudes that the codeword of a word contradicts, added up: a 1 contradicts a soft value above 0, a 0 one
-- below
abbrev pub contradicted_by : Source → List Bool → ℕ
contradicted_by b word = sum_below (λ i. contradicts (slice_index_or b.llrs i (pos 0)) (code_bit (log_length b.plan) (bits_of word) i)) (block_length b.plan)

-- each word shown since the load was reported with what its codeword contradicts
abbrev pub ShownExact : Option Session → Option Source → Type 0
ShownExact None source = Unit {0}
ShownExact (Some s) None = ⊥
ShownExact (Some s) (Some b) = EachShown (λ shown earlier. shown.report.shown ≡ Some (contradicted_by b shown.word)) s.showings

-- after every call
abbrev pub MetricsExact : (values : List ℤ) → List Call → Run → Type 0
MetricsExact values calls run =
    (k : ℕ) → ShownExact (session (recorded ruled run.start (take k run.calls))) (source_from values None (take k calls) (recorded ruled run.start (take k run.calls)))
