-- What a field must be: its tag, its length and its codes, and the numbers that its body holds. Assumes nothing.
use Rattle.std.specs.Prelude.{◌≡◌, ℕ, ◌*◌, ◌/◌, Bool, true, false, cond, not, ◌&&◌, List, length, ℤ, pos, is_some, Some, None, Option, ◌==◌, nat_lt, slice_index}
use Rattle.std.proofs.Common.{to_z}
use Rattle.std.specs.Int.{w16}
use Rattle.block.specs.declared.due.Due.{Due}
use Rattle.block.specs.declared.due.Due.TheVariants.{Plan, Search, Values}
use Rattle.block.specs.declared.numbers.PlanNumbers.{PlanNumbers}
use Rattle.block.specs.declared.numbers.SearchNumbers.{SearchNumbers}
use Rattle.plan.specs.declared.request.Request.{Request}
use Rattle.block.specs.Bytes.{wide, long}
use Rattle.block.specs.Codes.{check_of, store_of, check_bits, longest_payload}

abbrev pub tag_of : Due → ℕ
tag_of Plan = 1
tag_of Search = 2
tag_of (Values sent) = 3

-- the bytes of the body
abbrev pub length_of : Due → ℕ
length_of Plan = 9
length_of Search = 9
length_of (Values sent) = 2 * sent

-- every code in the body is listed; no words wanted counts as a code that is not
abbrev pub listed : Due → List ℕ → Bool
listed Plan body = is_some (check_of (slice_index body 8))
listed Search body = is_some (store_of (slice_index body 1)) && not (slice_index body 8 == 0)
listed (Values sent) body = true

-- a body of the right length whose codes are all listed
abbrev pub sound : Due → List ℕ → Bool
sound due body = length body == length_of due && listed due body

pub record PlanHolds (body : List ℕ) (p : PlanNumbers) : Type 0 where
  pub n : p.n ≡ slice_index body 0
  pub payload : p.payload ≡ wide body 1
  pub sent : p.sent ≡ wide body 3
  pub low : p.low ≡ wide body 5
  pub parity : p.parity ≡ slice_index body 7
  pub check : check_of (slice_index body 8) ≡ Some p.check

pub record SearchHolds (body : List ℕ) (s : SearchNumbers) : Type 0 where
  pub capacity : s.capacity ≡ slice_index body 0
  pub store : store_of (slice_index body 1) ≡ Some s.store
  pub failures : s.failures ≡ wide body 2
  pub steps : s.steps ≡ long body 4
  pub words : s.words ≡ slice_index body 8

-- what reading the body of a field answers: its numbers, or nothing where it is not sound
abbrev pub NumbersRead : {N : Type 0} → Due → (List ℕ → N → Type 0) → List ℕ → Option N → Type 0
NumbersRead due Holds body (Some n) = (sound due body ≡ true) × Holds body n
NumbersRead due Holds body None = sound due body ≡ false

-- the plan that the numbers of a plan field ask for
abbrev pub request_of : PlanNumbers → Request
request_of p = record {
  n = p.n;
  payload = p.payload;
  sent = p.sent;
  low = p.low;
  parity = p.parity;
  check_bits = check_bits p.check;
  longest = longest_payload p.check;
}

-- received value k in the body of the third field, in two's complement; 0 beyond the last
abbrev pub received_at : List ℕ → ℕ → ℤ
received_at body k = cond (nat_lt k (length body / 2)) (to_z w16 (wide body (2 * k))) (pos 0)
