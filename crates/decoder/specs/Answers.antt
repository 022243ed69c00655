-- What the calls are handed and answer, as the search's requests and answers. Assumes nothing.
use Rattle.std.specs.Prelude.{◌≡◌, ℕ, ◌*◌, Bool, true, cond, ◌&&◌, List, [], ◌++◌, map, length, drop, replicate, ℤ, pos, Some, None, Ok, Err, Option, Result, ◌==◌, nat_le, slice_index_or}
use Rattle.base.specs.declared.refusal.Phased.TheVariants as call
use Rattle.base.specs.declared.refusal.Refusal.{Refusal}
use Rattle.base.specs.declared.refusal.Refusal.TheVariants as refusal
use Rattle.code.specs.Sending.{byte_of}
use Rattle.cost.specs.Limits.{first_beyond}
use Rattle.outer.specs.declared.check.Judge as Judge
use Rattle.plan.specs.declared.plan.Plan.{Plan}
use Rattle.plan.specs.Plans.{block_length, payload_bits, check_bits}
use Rattle.search.specs.Stores.{Contents, put_into, emptied_to}
use Rattle.search.specs.Search.{between, root, load_refusal, shown_payload}
use Rattle.search.specs.Calls as search
use Rattle.model.specs.Blocks.{Meaning, meaning_of, block_of}
use Rattle.decoder.specs.Limits.{limits_allowed}
use Rattle.decoder.specs.Phases.{first_of, phase_refusal}
use Rattle.decoder.specs.Blocks.{plan_in, llr_in}
use Rattle.decoder.specs.declared.block.Block.{Block}
use Rattle.decoder.specs.declared.limits.Limits.{Limits}
use Rattle.decoder.specs.declared.report.Report.{Report}
use Rattle.decoder.specs.declared.report.Met.{Met}
use Rattle.decoder.specs.declared.report.Met.TheVariants as met
use Rattle.decoder.specs.declared.phase.Phase.{Phase}

-- a plan fits a check of its own count of check bits, and of payloads as long
abbrev pub fits_check : (bits longest : ℕ) → Plan → Bool
fits_check bits longest plan = check_bits plan == bits && nat_le (payload_bits plan) longest

abbrev pub request_of : {C : Type 0} → Judge.Ghosts C → C → Plan → List ℤ → Limits → search.Request
request_of judge check plan llrs limits = record {
  block = block_of plan (λ k. slice_index_or llrs k (pos 0)) (meaning_of judge check);
  fits = fits_check (judge.bits check) (judge.longest check) plan && (length llrs == block_length plan);
  bad_value = first_beyond llrs;
  capacity = limits.capacity;
  failures = limits.failures;
  steps = limits.steps;
}

abbrev pub figures_of : Report → search.Figures
figures_of r = record { shown = r.shown; floor = r.floor; bound = r.bound; steps = r.steps; failures = r.failures }

-- of load, strike and report
abbrev pub reported : Result Report Refusal → search.Answer
reported (Ok r) = search.Reported (figures_of r)
reported (Err e) = search.Refused e

abbrev pub shown_path : search.Phase → List Bool
shown_path search.Searching = []
shown_path (search.Shown c) = c.path
shown_path search.Ended = []

abbrev pub shown_in : search.Decoder Contents → List Bool
shown_in (search.Blank s) = []
shown_in (search.Busy d) = shown_path d.phase

-- what was met, where word is the path that is shown then
abbrev pub met_of : (word : List Bool) → Met → search.Met
met_of word met.Shown = search.ShownWord word
met_of word met.NoneLeft = search.NoneLeft
met_of word met.GivenUp = search.GivenUp
met_of word met.Paused = search.Paused

-- what a look before a step finds, if it ends the search
abbrev pub halt_of : Option Met → Option search.Met
halt_of None = None
halt_of (Some m) = Some (met_of [] m)

-- why an advance over a block of a size is refused, if it is
abbrev pub advance_verdict : Phase → (size budget scratch : ℕ) → Option Refusal
advance_verdict phase size budget scratch = first_of (phase_refusal phase call.Advance) (cond (between 1 65536 budget && nat_le (2 * size) scratch) None (Some refusal.Budget))

-- scratch after an advance over a block of a size: wiped in front, and untouched if the advance was refused
abbrev pub scratch_after : {X : Type 0} → Result X Refusal → (size : ℕ) → List ℤ → List ℤ
scratch_after (Ok a) size before = replicate (2 * size) (pos 0) ++ drop (2 * size) before
scratch_after (Err e) size before = before

-- of an advance that leaves the decoder as it is told
abbrev pub advanced_to : search.Decoder Contents → Result (Met × Report) Refusal → search.Answer
advanced_to after (Ok a) = search.Advanced (met_of (shown_in after) a.0) (figures_of a.1)
advanced_to after (Err e) = search.Refused e

abbrev pub payload_shown : search.Loaded Contents → search.Phase → List Bool
payload_shown d search.Searching = []
payload_shown d (search.Shown c) = shown_payload d c
payload_shown d search.Ended = []

-- the payload of the word that a decoder shows
abbrev pub payload_in : search.Decoder Contents → List Bool
payload_in (search.Blank s) = []
payload_in (search.Busy d) = payload_shown d d.phase

-- of word, where the payload is the one shown
abbrev pub word_answer : {X : Type 0} → (payload : List Bool) → Result X Refusal → search.Answer
word_answer payload (Ok a) = search.Payload payload
word_answer payload (Err e) = search.Refused e

-- the output after a word call: the payload, a byte for each bit
abbrev pub output_after : {X : Type 0} → Result X Refusal → (payload : List Bool) → List ℕ → List ℕ
output_after (Ok a) payload before = map byte_of payload
output_after (Err e) payload before = before

-- a refusal leaves everything as it was
abbrev pub KeptIfRefused : {X D : Type 0} → Result X Refusal → D → D → Type 0
KeptIfRefused (Ok a) before after = Unit {0}
KeptIfRefused (Err e) before after = after ≡ before

-- the state right after a granted load
abbrev pub started_with : Block → Meaning → Limits → search.Loaded Contents
started_with block check limits = record {
  block = block_of (plan_in block) (llr_in block) check;
  most_failures = limits.failures;
  most_steps = limits.steps;
  store = put_into (emptied_to limits.capacity) root;
  serial = 1;
  steps = 0;
  failures = 0;
  phase = search.Searching;
}

-- a load as it is examined: why it is refused, or the block that it hands over
abbrev pub Examined : search.Request → Meaning → Limits → Result Block Refusal → Type 0
Examined q check limits (Ok block) = (load_refusal q ≡ None) × (block_of (plan_in block) (llr_in block) check ≡ q.block) × (limits_allowed limits ≡ true)
Examined q check limits (Err e) = load_refusal q ≡ Some e
