-- A run of calls from a decoder on: what is recorded, what the buffers hold after it and what is promised. Assumes nothing.
use Rattle.std.specs.Prelude.{ℕ, List, [], ◌∷◌, map, take, ℤ, Ok, Err, Result}
use Rattle.base.specs.declared.refusal.Refusal.{Refusal}
use Rattle.outer.specs.declared.check.Judge as Judge
use Rattle.search.specs.Calls as search
use Rattle.search.specs.Promise.{Promise}
use Rattle.search.specs.Records.{Entry, recorded, after}
use Rattle.search.specs.Search.{called}
use Rattle.search.specs.Stores.{Contents, ruled}
use Rattle.store.specs.declared.store.Store as Store
use Rattle.replay.specs.Plays.{call_of, heard}
use Rattle.decoder.specs.States.{unloaded}
use Rattle.replay.specs.declared.call.Call.{Call}
use Rattle.replay.specs.declared.call.Answer.{Answer}

abbrev pub calls_of : {C : Type 0} → Judge.Ghosts C → C → (values : List ℤ) (scratch output : ℕ) → List Call → List search.Call
calls_of judge check values scratch output calls = map (call_of judge check values scratch output) calls

-- Where a run starts, and its calls as the search's.
pub record Run : Type 0 where
  pub start : search.Decoder Contents
  pub calls : List search.Call

-- from a new decoder on, over a store that may keep anything
abbrev pub run_of : {S C : Type 0} → Store.Ghosts S → Judge.Ghosts C → S → C → (values : List ℤ) (scratch output : ℕ) → List Call → Run
run_of members judge store check values scratch output calls = record { start = unloaded members store; calls = calls_of judge check values scratch output calls }

-- the answers of a record, as the program tells them
abbrev pub answers_in : List Entry → List (Result Answer Refusal)
answers_in entries = map (λ e. heard e.answer) entries

abbrev pub answers_of : Run → List (Result Answer Refusal)
answers_of run = answers_in (recorded ruled run.start run.calls)

-- the decoder after the last call
abbrev pub end_of : Run → search.Decoder Contents
end_of run = after ruled run.start run.calls

-- what calls made one after the other leave in a buffer, where `left` says what each does
abbrev pub left_after : {X : Type 0} → (left : search.Decoder Contents → search.Answer → X → X) → search.Decoder Contents → List search.Call → X → X
left_after left d [] before = before
left_after left d (c ∷ cs) before = left_after left (called ruled d c).0 cs (left d (called ruled d c).1 before)

abbrev pub left_by : {X : Type 0} → (left : search.Decoder Contents → search.Answer → X → X) → Run → X → X
left_by left run before = left_after left run.start run.calls before

-- the promise holds of the record after every call
abbrev pub KeepsPromise : Run → Type 0
KeepsPromise run =
    (k : ℕ) → Promise (recorded ruled run.start (take k run.calls)) (called ruled (after ruled run.start (take k run.calls)) search.Report).1

-- the calls are played, or none is
abbrev pub if_played : {X Y D : Type 0} → Result X Y → (played unplayed : D) → D
if_played (Ok x) played unplayed = played
if_played (Err e) played unplayed = unplayed
