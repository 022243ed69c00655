-- What a plan says of its block, and what making a plan does. Assumes nothing.
-- Every plan obeys the invariant of its type: exactly K information and p parity positions below N, none of them
-- barred, all else frozen, its numbers within limits and its mode that of its numbers.
use Rattle.std.specs.Prelude.{◌≡◌, ℕ, ◌+◌, ◌^◌, Bool, cond, Some, None, Ok, Err, Result, nat_lt, slice_index_or}
use Rattle.base.specs.declared.refusal.Refusal.{Refusal}
use Rattle.plan.specs.declared.kind.Kind.{Kind}
use Rattle.plan.specs.declared.kind.Kind.TheVariants.{Frozen}
use Rattle.plan.specs.declared.mode.Mode.{Mode}
use Rattle.plan.specs.declared.plan.Plan.{Plan}
use Rattle.plan.specs.declared.request.Request.{Request}
use Rattle.plan.specs.Order.{sent_place, sent_by, barred_by}
use Rattle.plan.specs.Requests.{mode_for, kind_for, verdict}

abbrev pub log_length : Plan → ℕ
log_length plan = plan.n

-- N
abbrev pub block_length : Plan → ℕ
block_length plan = 2 ^ plan.n

-- A
abbrev pub payload_bits : Plan → ℕ
payload_bits plan = plan.payload

-- L
abbrev pub check_bits : Plan → ℕ
check_bits plan = plan.check_bits

-- K
abbrev pub word_bits : Plan → ℕ
word_bits plan = plan.payload + plan.check_bits

-- E
abbrev pub sent_bits : Plan → ℕ
sent_bits plan = plan.sent

-- t
abbrev pub low_bound : Plan → ℕ
low_bound plan = plan.low

-- p
abbrev pub parity_bits : Plan → ℕ
parity_bits plan = plan.parity

abbrev pub mode_in : Plan → Mode
mode_in plan = plan.mode

abbrev pub kind_at : Plan → ℕ → Kind
kind_at plan i = slice_index_or plan.kinds i Frozen

-- the code place of sent bit k, 0 past the last sent bit
abbrev pub place_of : Plan → ℕ → ℕ
place_of plan k = cond (nat_lt k plan.sent) (sent_place plan.mode plan.n plan.sent k) 0

abbrev pub sent_at : Plan → ℕ → Bool
sent_at plan i = sent_by plan.mode plan.n plan.sent i

abbrev pub barred_at : Plan → ℕ → Bool
barred_at plan i = barred_by plan.mode plan.n plan.sent plan.low i

-- the plan is the one that the request asks for
pub record Planned (q : Request) (plan : Plan) : Type 0 where
  pub n : log_length plan ≡ q.n
  pub payload : payload_bits plan ≡ q.payload
  pub checks : check_bits plan ≡ q.check_bits
  pub sent : sent_bits plan ≡ q.sent
  pub low : low_bound plan ≡ q.low
  pub parity : parity_bits plan ≡ q.parity
  pub mode : mode_in plan ≡ mode_for q
  pub kinds : (i : ℕ) → kind_at plan i ≡ kind_for q i

-- making a plan in the caller's place: granted, the place holds the plan; refused, it is as it was
abbrev pub Made : {X : Type 0} → Plan → Request → Result X Refusal → Plan → Type 0
Made before q (Ok done) after = (verdict q ≡ None) × Planned q after
Made before q (Err refusal) after = (verdict q ≡ Some refusal) × (after ≡ before)

-- a plan made of a request alone
abbrev pub MadeOf : Request → Result Plan Refusal → Type 0
MadeOf q (Ok plan) = (verdict q ≡ None) × Planned q plan
MadeOf q (Err refusal) = verdict q ≡ Some refusal

-- the request whose plan a place holds before any is made: one information position in a block of 32
abbrev pub builtin_request : Request
builtin_request = record { n = 5; payload = 1; sent = 32; low = 0; parity = 0; check_bits = 0; longest = 1 }
