-- Laying a payload: which bits a laid word holds, and when laying is refused. Assumes nothing.
use Rattle.std.specs.Prelude.{◌≡◌, ℕ, Bool, false, cond, ◌&&◌, List, map, length, Some, None, Ok, Err, Option, Result, ◌==◌, nat_eq, nat_le, nat_lt, slice_index, slice_index_or}
use Rattle.base.specs.Counts.{count_below}
use Rattle.base.specs.declared.refusal.Refusal.{Refusal}
use Rattle.base.specs.declared.refusal.Refusal.TheVariants.{Payload}
use Rattle.bits.specs.Row.{row_bit}
use Rattle.plan.specs.Kinds.{is_information}
use Rattle.plan.specs.Plans.{kind_at, payload_bits, check_bits}
use Rattle.plan.specs.declared.kind.Kind.{Kind}
use Rattle.plan.specs.declared.kind.Kind.TheVariants.{Frozen, Information, Parity}
use Rattle.plan.specs.declared.plan.Plan.{Plan}
use Rattle.code.specs.First.{first_below}
use Rattle.code.specs.Lawful.{parity_sum}
use Rattle.code.specs.declared.laid.Laid.{Laid}

-- the word bit of information position i: the word's bits go to the information positions in ascending order
abbrev pub word_bit_at : (kinds : ℕ → Kind) (word : List Bool) → ℕ → Bool
word_bit_at kinds word i = slice_index_or word (count_below (λ j. is_information (kinds j)) i) false

-- the bit of a position by its kind, where its word bit and its parity sum are given
abbrev pub bit_of_kind : Kind → (carried sum : Bool) → Bool
bit_of_kind Frozen carried sum = false
bit_of_kind Information carried sum = carried
bit_of_kind Parity carried sum = sum

-- bit i of a word laid under the kinds of a plan
abbrev pub laid_bit : (kinds : ℕ → Kind) (word : List Bool) → ℕ → Bool
laid_bit kinds word i = bit_of_kind (kinds i) (word_bit_at kinds word i) (parity_sum kinds (word_bit_at kinds word) i)

-- the bits that a buffer of bytes 0 and 1 stands for
abbrev pub bits_of : List ℕ → List Bool
bits_of bytes = map (λ b. nat_eq b 1) bytes

-- a plan fits a check of L bits for payloads of at most H bits
abbrev pub fits_check : Plan → (L H : ℕ) → Bool
fits_check plan L H = check_bits plan == L && nat_le (payload_bits plan) H

abbrev pub bad_byte : Option ℕ → Option Refusal
bad_byte (Some at) = Some (Payload at)
bad_byte None = None

-- what refuses a payload, if anything does
abbrev pub laying_verdict : Plan → (L H : ℕ) → (payload : List ℕ) → Option Refusal
laying_verdict plan L H payload =
    cond (fits_check plan L H && length payload == payload_bits plan)
    (bad_byte (first_below (λ k. nat_lt 1 (slice_index payload k)) (length payload)))
    (Some (Payload 0))

-- the plan that a word belongs to
abbrev pub plan_of : Laid → Plan
plan_of word = word.plan

abbrev pub laid_at : Laid → ℕ → Bool
laid_at word i = row_bit word.bits i

-- a fresh word belongs to its plan and is all zero
pub record Fresh (whose : Plan) (word : Laid) : Type 0 where
  pub plan : plan_of word ≡ whose
  pub zero : (i : ℕ) → laid_at word i ≡ false

-- a word after its payload was finished and laid
pub record Filled (finished : List Bool → List Bool) (payload : List ℕ) (before after : Laid) : Type 0 where
  pub plan : plan_of after ≡ plan_of before
  pub bits : (i : ℕ) → laid_at after i ≡ laid_bit (kind_at (plan_of before)) (finished (bits_of payload)) i

-- laying under a check that finishes by `finished`, with L bits and payloads of at most H: granted, or refused with
-- the word as it was
abbrev pub Lays : {X : Type 0} → (finished : List Bool → List Bool) (L H : ℕ) (payload : List ℕ) → Laid → Result X Refusal → Laid → Type 0
Lays finished L H payload before (Ok done) after = (laying_verdict (plan_of before) L H payload ≡ None) × Filled finished payload before after
Lays finished L H payload before (Err refusal) after = (laying_verdict (plan_of before) L H payload ≡ Some refusal) × (after ≡ before)
