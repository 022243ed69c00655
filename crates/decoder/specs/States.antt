-- The state of a decoder as the search's: kept candidates with the paths in their rows. Assumes nothing.
use Rattle.std.specs.Prelude.{◌≡◌, ℕ, ◌+◌, ◌*◌, ◌≤◌, Bool, true, false, List, [], ◌∷◌}
use Rattle.cost.specs.Rows.{path_at}
use Rattle.outer.specs.declared.check.Judge as Judge
use Rattle.plan.specs.Plans.{block_length, payload_bits}
use Rattle.store.specs.declared.candidate.Candidate.{Candidate}
use Rattle.store.specs.declared.store.Store as Store
use Rattle.store.specs.Meaning.{holds_row}
use Rattle.search.specs.Stores.{Contents, ruled}
use Rattle.search.specs.Calls as search
use Rattle.search.specs.Laws.{AllExact}
use Rattle.search.specs.Paths.{information_from}
use Rattle.model.specs.Blocks.{meaning_of, kinds_of, block_of}
use Rattle.model.specs.Reading.{first_bits, candidate_in, contents_in}
use Rattle.decoder.specs.Blocks.{plan_in, llr_in}
use Rattle.decoder.specs.declared.state.State.{State}
use Rattle.decoder.specs.declared.phase.Phase.{Phase}
use Rattle.decoder.specs.declared.phase.Phase.TheVariants as phase

-- S and C are a store and a check, known by their members.

abbrev pub contents_of : {S C : Type 0} → Store.Ghosts S → State S C → Contents
contents_of members d = contents_in (path_at d.rows) (members.kept d.store) (members.capacity d.store) (members.floor d.store)

-- the loaded state, in a phase
abbrev pub loaded_in : {S C : Type 0} → Store.Ghosts S → Judge.Ghosts C → State S C → search.Phase → search.Loaded Contents
loaded_in members judge d phase = record {
  block = block_of (plan_in d.block) (llr_in d.block) (meaning_of judge d.check);
  most_failures = d.counts.most_failures;
  most_steps = d.counts.most_steps;
  store = contents_of members d;
  serial = d.counts.serial;
  steps = d.counts.steps;
  failures = d.counts.failures;
  phase = phase;
}

-- the phase as the search's; a blank decoder's does not matter
abbrev pub phase_in : (paths : ℕ → ℕ → Bool) → Phase → search.Phase
phase_in paths phase.Blank = search.Ended
phase_in paths phase.Searching = search.Searching
phase_in paths (phase.Shown c) = search.Shown (candidate_in paths c)
phase_in paths phase.Ended = search.Ended

abbrev pub phase_of : {S C : Type 0} → State S C → search.Phase
phase_of d = phase_in (path_at d.rows) d.phase

abbrev pub loaded_of : {S C : Type 0} → Store.Ghosts S → Judge.Ghosts C → State S C → search.Loaded Contents
loaded_of members judge d = loaded_in members judge d (phase_of d)

abbrev pub unless_blank : Phase → Contents → search.Loaded Contents → search.Decoder Contents
unless_blank phase.Blank s d = search.Blank s
unless_blank phase.Searching s d = search.Busy d
unless_blank (phase.Shown c) s d = search.Busy d
unless_blank phase.Ended s d = search.Busy d

-- the decoder as the search sees it
abbrev pub model_of : {S C : Type 0} → Store.Ghosts S → Judge.Ghosts C → State S C → search.Decoder Contents
model_of members judge d = unless_blank d.phase (contents_of members d) (loaded_of members judge d)

-- a decoder that never was loaded, over a store that may keep anything: every path is of zeros
abbrev pub unloaded : {S : Type 0} → Store.Ghosts S → S → search.Decoder Contents
unloaded members store = search.Blank (contents_in (λ row k. false) (members.kept store) (members.capacity store) (members.floor store))

-- no two kept candidates share a row
abbrev pub RowsApart : List Candidate → Type 0
RowsApart [] = Unit {0}
RowsApart (c ∷ cs) = (holds_row c.row cs ≡ false) × RowsApart cs

-- a word that is shown is whole, and the check accepts its information bits
abbrev pub ShownWhole : {S C : Type 0} → Judge.Ghosts C → State S C → Phase → Type 0
ShownWhole judge d phase.Blank = Unit {0}
ShownWhole judge d phase.Searching = Unit {0}
ShownWhole judge d (phase.Shown c) =
    (c.length ≡ block_length (plan_in d.block))
    × ((meaning_of judge d.check).accepted (payload_bits (plan_in d.block)) (information_from (kinds_of (plan_in d.block)) 0 (first_bits (path_at d.rows c.row) (block_length (plan_in d.block)))) ≡ true)
ShownWhole judge d phase.Ended = Unit {0}

-- What the calls keep between them, once a block is loaded: every kept candidate has a lawful path and its exact cost,
-- no two share a row, a step uses up two serials at most, and a shown word is whole.
pub record Sound {S C : Type 0} (members : Store.Ghosts S) (judge : Judge.Ghosts C) (d : State S C) : Type 0 where
  pub exact : AllExact ruled (loaded_of members judge d)
  pub apart : RowsApart (members.kept d.store)
  pub serials : d.counts.serial ≤ 2 * d.counts.steps + 1
  pub shown : ShownWhole judge d d.phase

abbrev pub OnceLoaded : Phase → Type 0 → Type 0
OnceLoaded phase.Blank P = Unit {0}
OnceLoaded phase.Searching P = P
OnceLoaded (phase.Shown c) P = P
OnceLoaded phase.Ended P = P

abbrev pub Coherent : {S C : Type 0} → Store.Ghosts S → Judge.Ghosts C → State S C → Type 0
Coherent members judge d = OnceLoaded d.phase (Sound members judge d)
