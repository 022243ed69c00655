-- The coded word and its sending. Assumes nothing.
use Rattle.std.specs.Prelude.{◌≡◌, ℕ, ◌<◌, ◌≤◌, Bool, true, false, cond, not, ◌&&◌, List, length, Some, None, Ok, Err, Option, Result, ◌==◌, slice_index}
use Rattle.base.specs.Transform.{code_bit}
use Rattle.base.specs.declared.refusal.Refusal.{Refusal}
use Rattle.base.specs.declared.refusal.Refusal.TheVariants.{SentLength, ShortenedOne}
use Rattle.bits.specs.Row.{row_bit}
use Rattle.plan.specs.Plans.{log_length, block_length, sent_bits, mode_in, place_of, sent_at}
use Rattle.plan.specs.declared.mode.Mode.{Mode}
use Rattle.plan.specs.declared.mode.Mode.TheVariants.{Repeat, Puncture, Shorten}
use Rattle.plan.specs.declared.plan.Plan.{Plan}
use Rattle.code.specs.First.{first_below}
use Rattle.code.specs.Laying.{plan_of, laid_at}
use Rattle.code.specs.declared.coded.Coded.{Coded}
use Rattle.code.specs.declared.laid.Laid.{Laid}

-- the plan that a word belongs to
abbrev pub coded_plan : Coded → Plan
coded_plan word = word.plan

abbrev pub coded_at : Coded → ℕ → Bool
coded_at word i = row_bit word.bits i

-- a coded word is the transform of a laid one
pub record Transforms (before : Laid) (after : Coded) : Type 0 where
  pub plan : coded_plan after ≡ plan_of before
  pub bits : (i : ℕ) → i < block_length (plan_of before) → coded_at after i ≡ code_bit (log_length (plan_of before)) (laid_at before) i
  pub beyond : (i : ℕ) → block_length (plan_of before) ≤ i → coded_at after i ≡ false

abbrev pub is_shorten : Mode → Bool
is_shorten Repeat = false
is_shorten Puncture = false
is_shorten Shorten = true

-- place i is left out by shortening, and carries a one
abbrev pub shortened_one : Plan → (code : ℕ → Bool) → ℕ → Bool
shortened_one plan code i = is_shorten (mode_in plan) && (not (sent_at plan i) && code i)

abbrev pub bad_place : Option ℕ → Option Refusal
bad_place (Some at) = Some (ShortenedOne at)
bad_place None = None

-- what refuses to send into a buffer of a length, if anything does
abbrev pub sending_verdict : Plan → (code : ℕ → Bool) (length : ℕ) → Option Refusal
sending_verdict plan code length =
    cond (length == sent_bits plan) (bad_place (first_below (shortened_one plan code) (block_length plan))) (Some SentLength)

-- a bit as a byte
abbrev pub byte_of : Bool → ℕ
byte_of b = cond b 1 0

-- sent bit k is the code bit at its place
abbrev pub SentBits : Plan → (code : ℕ → Bool) → List ℕ → Type 0
SentBits plan code out = (k : ℕ) → k < sent_bits plan → slice_index out k ≡ byte_of (code (place_of plan k))

-- sending: granted, or refused with the buffer as it was
abbrev pub Sends : {X : Type 0} → Coded → (before : List ℕ) → Result X Refusal → (after : List ℕ) → Type 0
Sends word before (Ok done) after = (sending_verdict (coded_plan word) (coded_at word) (length before) ≡ None) × SentBits (coded_plan word) (coded_at word) after
Sends word before (Err refusal) after = (sending_verdict (coded_plan word) (coded_at word) (length before) ≡ Some refusal) × (after ≡ before)
