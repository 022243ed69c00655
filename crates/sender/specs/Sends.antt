-- What is sent for a request: its plan, its finished word, laid bits, code bits and sent bits. Assumes nothing.
use Rattle.std.specs.Prelude.{◌≡◌, ℕ, ◌<◌, Bool, ◌⊎◌, List, map, length, Some, None, Ok, Err, vec_items, Option, Result, slice_index}
use Rattle.std.specs.List.{range_with_len}
use Rattle.std.specs.Global.{Vec}
use Rattle.base.specs.Transform.{code_bit}
use Rattle.base.specs.declared.refusal.Refusal.{Refusal}
use Rattle.block.specs.Checks.{finished_by}
use Rattle.block.specs.Codes.{check_bits, longest_payload}
use Rattle.block.specs.Fields.{request_of}
use Rattle.code.specs.Laying.{bits_of, laid_at, laid_bit, laying_verdict, plan_of}
use Rattle.code.specs.Sending.{coded_plan, coded_at, byte_of, sending_verdict, SentBits}
use Rattle.code.specs.declared.coded.Coded.{Coded}
use Rattle.code.specs.declared.laid.Laid.{Laid}
use Rattle.plan.specs.Plans.{Planned, kind_at, log_length, block_length, sent_bits, place_of}
use Rattle.plan.specs.Requests.{verdict}
use Rattle.plan.specs.declared.plan.Plan.{Plan}
use Rattle.sender.specs.declared.failure.Failure.{Failure}
use Rattle.sender.specs.declared.failure.Failure.TheVariants.{Refused, Memory}
use Rattle.sender.specs.declared.request.Request.{Request}
use Rattle.sender.specs.declared.sending.Sending.{Sending}

-- the plan that a request asks for is granted
pub record PlanIs (request : Request) (plan : Plan) : Type 0 where
  pub granted : verdict (request_of request.plan) ≡ None
  pub planned : Planned (request_of request.plan) plan

abbrev pub PlanFor : Request → Result Plan Refusal → Type 0
PlanFor request (Ok plan) = PlanIs request plan
PlanFor request (Err e) = verdict (request_of request.plan) ≡ Some e

-- the payload, finished by its check
abbrev pub word_of : Request → List Bool
word_of request = finished_by request.plan.check (bits_of (vec_items request.payload))

-- the bit at a position: the word is laid under the plan
abbrev pub laid_of : Plan → Request → ℕ → Bool
laid_of plan request i = laid_bit (kind_at plan) (word_of request) i

-- the code bit at a place: the laid word is transformed
abbrev pub code_of : Plan → Request → ℕ → Bool
code_of plan request i = code_bit (log_length plan) (laid_of plan request) i

-- what refuses the payload under the plan, if anything does
abbrev pub payload_verdict : Plan → Request → Option Refusal
payload_verdict plan request =
    laying_verdict plan (check_bits request.plan.check) (longest_payload request.plan.check) (vec_items request.payload)

pub record LaidIs (whose : Plan) (request : Request) (word : Laid) : Type 0 where
  pub granted : payload_verdict whose request ≡ None
  pub plan : plan_of word ≡ whose
  pub bits : (i : ℕ) → laid_at word i ≡ laid_of whose request i

abbrev pub LaidFor : Plan → Request → Result Laid Refusal → Type 0
LaidFor plan request (Ok word) = LaidIs plan request word
LaidFor plan request (Err e) = payload_verdict plan request ≡ Some e

pub record CodeIs (whose : Plan) (request : Request) (code : Coded) : Type 0 where
  pub plan : coded_plan code ≡ whose
  pub bits : (i : ℕ) → i < block_length whose → coded_at code i ≡ code_of whose request i

-- E bits, each the code bit at its place
pub record Sent (plan : Plan) (request : Request) (out : List ℕ) : Type 0 where
  pub count : length out ≡ sent_bits plan
  pub bits : (k : ℕ) → k < sent_bits plan → slice_index out k ≡ byte_of (code_of plan request (place_of plan k))

-- what a coded word gives where the plan is its own
abbrev pub SentFor : Plan → Coded → Result (Vec ℕ) Failure → Type 0
SentFor plan code (Ok bits) = (length (vec_items bits) ≡ sent_bits plan) × SentBits (coded_plan code) (coded_at code) (vec_items bits)
SentFor plan code (Err (Refused e)) = sending_verdict (coded_plan code) (coded_at code) (sent_bits plan) ≡ Some e
SentFor plan code (Err Memory) = Unit {0}

-- every step of sending is the one of the request
pub record SendingIs (request : Request) (s : Sending) : Type 0 where
  pub plan : PlanIs request s.plan
  pub finished : vec_items s.finished ≡ word_of request
  pub laid : vec_items s.laid ≡ map (laid_of s.plan request) (range_with_len 0 (block_length s.plan))
  pub code : CodeIs s.plan request s.code
  pub sent : Sent s.plan request (vec_items s.sent)

-- the payload is refused under the plan of the request
pub record PayloadRefused (request : Request) (e : Refusal) : Type 0 where
  pub plan : Plan
  pub planned : PlanIs request plan
  pub refused : payload_verdict plan request ≡ Some e

-- the code of the request is refused to be sent
pub record CodeRefused (request : Request) (e : Refusal) : Type 0 where
  pub plan : Plan
  pub code : Coded
  pub planned : PlanIs request plan
  pub coded : CodeIs plan request code
  pub refused : sending_verdict plan (coded_at code) (sent_bits plan) ≡ Some e

-- a refusal of a layer, passed up whole: of the plan, else of laying, else of sending
abbrev pub RefusedWith : Request → Refusal → Type 0
RefusedWith request e =
    (verdict (request_of request.plan) ≡ Some e) ⊎ (PayloadRefused request e ⊎ CodeRefused request e)

abbrev pub FailsWith : Request → Failure → Type 0
FailsWith request (Refused e) = RefusedWith request e
FailsWith request Memory = Unit {0}

abbrev pub Sends : Request → Result Sending Failure → Type 0
Sends request (Ok s) = SendingIs request s
Sends request (Err failure) = FailsWith request failure
