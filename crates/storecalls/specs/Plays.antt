-- What each call does to what a store means, and what it answers. Assumes nothing.
use Rattle.std.specs.Prelude.{ℕ, List, [], length, None, Option}
use Rattle.store.specs.declared.candidate.Candidate.{Candidate}
use Rattle.store.specs.Meaning.{held_capacity, puts, takes, lowered, metric_of, first_metric, holds_row}
use Rattle.store.specs.Order.{before}
use Rattle.storecalls.specs.declared.call.Answer.{Answer}
use Rattle.storecalls.specs.declared.call.Answer.TheVariants.{Done, Taken, Number, Metric, Held}
use Rattle.storecalls.specs.declared.call.Call.{Call}
use Rattle.storecalls.specs.declared.call.Call.TheVariants.{Empty, Put, Take, Count, Capacity, FirstMetric, Floor, HoldsRow}

-- what a store means
pub record State : Type 0 where
  pub kept : List Candidate
  pub capacity : ℕ
  pub floor : Option ℕ

abbrev pub state_of : {S : Type 0} → (S → List Candidate) → (S → ℕ) → (S → Option ℕ) → S → State
state_of kept capacity floor s = record { kept = kept s; capacity = capacity s; floor = floor s }

abbrev pub played : Call → State → State
played (Empty wanted) s = record { kept = []; capacity = held_capacity wanted; floor = None }
played (Put c) s = record {
  kept = (puts before s.capacity s.kept c).stays;
  capacity = s.capacity;
  floor = lowered metric_of s.floor (puts before s.capacity s.kept c).shed;
}
played Take s = record {
  kept = (takes s.kept).stays;
  capacity = s.capacity;
  floor = lowered metric_of s.floor (takes s.kept).shed;
}
played Count s = s
played Capacity s = s
played FirstMetric s = s
played Floor s = s
played (HoldsRow row) s = s

abbrev pub answered : Call → State → Answer
answered (Empty wanted) s = Done
answered (Put c) s = Done
answered Take s = Taken (takes s.kept).answer
answered Count s = Number (length s.kept)
answered Capacity s = Number s.capacity
answered FirstMetric s = Metric (first_metric s.kept)
answered Floor s = Metric s.floor
answered (HoldsRow row) s = Held (holds_row row s.kept)
