-- What each call does to a decoder and what it answers, over any store. Assumes nothing.
use Rattle.std.specs.Prelude.{ℕ, zero, suc, ◌*◌, Bool, true, false, cond, ◌&&◌, ◌||◌, List, [], ◌∷◌, length, Some, None, Option, ◌==◌, nat_le}
use Rattle.base.specs.declared.refusal.Phased.TheVariants as call
use Rattle.base.specs.declared.refusal.Refusal.{Refusal}
use Rattle.base.specs.declared.refusal.Refusal.TheVariants as refusal
use Rattle.search.specs.Paths.{Block, is_information, allowed, child, information_bits}
use Rattle.search.specs.Stores.{Candidate, Store, lesser, first_metric}
use Rattle.search.specs.Calls.{Request, Call, Load, Advance, Strike, Word, Report, Phase, Searching, Shown, Ended, Loaded, Decoder, Blank, Busy, Figures, Met, ShownWord, NoneLeft, GivenUp, Paused, Answer, Refused, Reported, Advanced, Payload}

-- Reports

abbrev pub shown_metric : Phase → Option ℕ
shown_metric Searching = None
shown_metric (Shown c) = Some c.metric
shown_metric Ended = None

abbrev pub report_of : {S : Type 0} → Store S → Loaded S → Figures
report_of m d = record {
  shown = shown_metric d.phase;
  floor = m.floor d.store;
  bound = lesser (m.floor d.store) (first_metric (m.kept d.store));
  steps = d.steps;
  failures = d.failures;
}

-- Load

abbrev pub between : ℕ → ℕ → ℕ → Bool
between low high n = nat_le low n && nat_le n high

abbrev pub value_refusal : Option ℕ → Option Refusal
value_refusal None = None
value_refusal (Some at) = Some (refusal.Block at)

abbrev pub within_limits : Request → Bool
within_limits q = between 2 128 q.capacity && (between 1 64 q.failures && between 1 16777216 q.steps)

-- at the index of the first bad value if bad values alone are wrong
abbrev pub load_refusal : Request → Option Refusal
load_refusal q = cond (q.fits && within_limits q) (value_refusal q.bad_value) (Some (refusal.Block 0))

-- the path of length 0
abbrev pub root : Candidate
root = record { metric = 0; length = 0; serial = 0; path = [] }

abbrev pub loaded : {S : Type 0} → Store S → S → Request → Loaded S
loaded m s q = record {
  block = q.block;
  most_failures = q.failures;
  most_steps = q.steps;
  store = m.put (m.emptied s q.capacity) root;
  serial = 1;
  steps = 0;
  failures = 0;
  phase = Searching;
}

-- A step

abbrev pub in_phase : {S : Type 0} → Loaded S → Phase → Loaded S
in_phase d phase = record { block = d.block; most_failures = d.most_failures; most_steps = d.most_steps; store = d.store; serial = d.serial; steps = d.steps; failures = d.failures; phase = phase }

-- the first candidate is out of the store, and the step is counted
abbrev pub after_take : {S : Type 0} → Store S → Loaded S → Loaded S
after_take m d = record { block = d.block; most_failures = d.most_failures; most_steps = d.most_steps; store = m.taken d.store; serial = d.serial; steps = suc d.steps; failures = d.failures; phase = d.phase }

abbrev pub failed : {S : Type 0} → Loaded S → Loaded S
failed d = record { block = d.block; most_failures = d.most_failures; most_steps = d.most_steps; store = d.store; serial = d.serial; steps = d.steps; failures = suc d.failures; phase = d.phase }

abbrev pub judged : {S : Type 0} → Candidate → Loaded S → Loaded S
judged c d = cond (d.block.accepted (information_bits d.block c.path)) (in_phase d (Shown c)) (failed d)

-- whether the child that goes on with bit u is left out
abbrev pub is_left_out : Block → List Bool → Bool → Bool
is_left_out b path u = is_information (b.kind (length path)) && b.hopeless (information_bits b (child path u))

-- only a put uses a serial up
abbrev pub with_put : {S : Type 0} → Store S → Loaded S → List Bool → Loaded S
with_put m d path = record { block = d.block; most_failures = d.most_failures; most_steps = d.most_steps; store = m.put d.store (record { metric = d.block.cost path; length = length path; serial = d.serial; path = path }); serial = suc d.serial; steps = d.steps; failures = d.failures; phase = d.phase }

abbrev pub put_child : {S : Type 0} → Store S → List Bool → Loaded S → Bool → Loaded S
put_child m path d u = cond (is_left_out d.block path u) d (with_put m d (child path u))

abbrev pub put_children : {S : Type 0} → Store S → List Bool → Loaded S → List Bool → Loaded S
put_children m path d [] = d
put_children m path d (u ∷ us) = put_children m path (put_child m path d u) us

abbrev pub explored : {S : Type 0} → Store S → Candidate → Loaded S → Loaded S
explored m c d = cond (c.length == d.block.size) (judged c d) (put_children m c.path d (allowed d.block.kind c.path))

-- one step; a store that keeps nothing is left alone
abbrev pub step_from : {S : Type 0} → Store S → Loaded S → List Candidate → Loaded S
step_from m d [] = d
step_from m d (c ∷ others) = explored m c (after_take m d)

abbrev pub step : {S : Type 0} → Store S → Loaded S → Loaded S
step m d = step_from m d (m.kept d.store)

-- Advance

-- C failures or T steps
abbrev pub spent : {S : Type 0} → Loaded S → Bool
spent d = nat_le d.most_failures d.failures || nat_le d.most_steps d.steps

abbrev pub halt_at : List Candidate → Bool → Option Met
halt_at [] spent = Some NoneLeft
halt_at (c ∷ others) true = Some GivenUp
halt_at (c ∷ others) false = None

-- the looks that end the search, before each step
abbrev pub halt : {S : Type 0} → Store S → Loaded S → Option Met
halt m d = halt_at (m.kept d.store) (spent d)

abbrev pub unless_halted : {S : Type 0} → Loaded S → Option Met → Met × Loaded S → Met × Loaded S
unless_halted d None onward = onward
unless_halted d (Some met) onward = (met, in_phase d Ended)

abbrev pub unless_shown : {S : Type 0} → Loaded S → Phase → Met × Loaded S → Met × Loaded S
unless_shown d Searching onward = onward
unless_shown d (Shown c) onward = (ShownWord c.path, d)
unless_shown d Ended onward = onward

-- at most so many further steps
unfoldable pub advanced : {S : Type 0} → Store S → ℕ → Loaded S → Met × Loaded S
advanced m zero d = unless_halted d (halt m d) (Paused, d)
advanced m (suc budget) d = unless_halted d (halt m d) (unless_shown (step m d) (step m d).phase (advanced m budget (step m d)))

abbrev pub advance_refusal : {S : Type 0} → Loaded S → ℕ → ℕ → Option Refusal
advance_refusal d budget scratch = cond (between 1 65536 budget && nat_le (2 * d.block.size) scratch) None (Some refusal.Budget)

-- Word

abbrev pub word_refusal : {S : Type 0} → Loaded S → ℕ → Option Refusal
word_refusal d output = cond (output == d.block.payload_length) None (Some refusal.OutputLength)

abbrev pub shown_payload : {S : Type 0} → Loaded S → Candidate → List Bool
shown_payload d c = d.block.payload (information_bits d.block c.path)

-- Calls

-- a refusal leaves the decoder as it was
abbrev pub unless_refused : {S : Type 0} → Decoder S → Option Refusal → Decoder S × Answer → Decoder S × Answer
unless_refused d None granted = granted
unless_refused d (Some r) granted = (d, Refused r)

abbrev pub store_of : {S : Type 0} → Decoder S → S
store_of (Blank s) = s
store_of (Busy d) = d.store

abbrev pub reporting : {S : Type 0} → Store S → Loaded S → Decoder S × Answer
reporting m d = (Busy d, Reported (report_of m d))

abbrev pub advancing : {S : Type 0} → Store S → Met × Loaded S → Decoder S × Answer
advancing m end = (Busy end.1, Advanced end.0 (report_of m end.1))

abbrev pub in_searching : {S : Type 0} → Store S → Loaded S → Phase → ℕ → ℕ → Decoder S × Answer
in_searching m d Searching budget scratch = unless_refused (Busy d) (advance_refusal d budget scratch) (advancing m (advanced m budget d))
in_searching m d (Shown c) budget scratch = (Busy d, Refused (refusal.WrongPhase call.Advance))
in_searching m d Ended budget scratch = (Busy d, Refused (refusal.WrongPhase call.Advance))

abbrev pub struck : {S : Type 0} → Store S → Loaded S → Phase → Decoder S × Answer
struck m d Searching = (Busy d, Refused (refusal.WrongPhase call.Strike))
struck m d (Shown c) = reporting m (in_phase d Searching)
struck m d Ended = (Busy d, Refused (refusal.WrongPhase call.Strike))

abbrev pub wording : {S : Type 0} → Loaded S → Phase → ℕ → Decoder S × Answer
wording d Searching output = (Busy d, Refused (refusal.WrongPhase call.Word))
wording d (Shown c) output = unless_refused (Busy d) (word_refusal d output) (Busy d, Payload (shown_payload d c))
wording d Ended output = (Busy d, Refused (refusal.WrongPhase call.Word))

abbrev pub called : {S : Type 0} → Store S → Decoder S → Call → Decoder S × Answer
called m d (Load q) = unless_refused d (load_refusal q) (reporting m (loaded m (store_of d) q))
called m (Blank s) (Advance budget scratch) = (Blank s, Refused (refusal.WrongPhase call.Advance))
called m (Busy d) (Advance budget scratch) = in_searching m d d.phase budget scratch
called m (Blank s) Strike = (Blank s, Refused (refusal.WrongPhase call.Strike))
called m (Busy d) Strike = struck m d d.phase
called m (Blank s) (Word output) = (Blank s, Refused (refusal.WrongPhase call.Word))
called m (Busy d) (Word output) = wording d d.phase output
called m (Blank s) Report = (Blank s, Refused (refusal.WrongPhase call.Report))
called m (Busy d) Report = reporting m d
