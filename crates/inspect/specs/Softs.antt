-- What recovery makes of the values of a block file: a soft value for every place, or its refusal. Assumes nothing.
use Rattle.std.specs.Prelude.{◌≡◌, ℕ, ◌<◌, ◌⊎◌, List, ℤ, Some, None, Ok, Err, Option, Result}
use Rattle.base.specs.declared.refusal.Refusal.{Refusal}
use Rattle.block.specs.Fields.{PlanHolds, received_at, request_of}
use Rattle.block.specs.File.{body_at, file_fault, plan_at, sent_of, values_at}
use Rattle.block.specs.declared.due.Due.TheVariants as due
use Rattle.block.specs.declared.numbers.PlanNumbers.{PlanNumbers}
use Rattle.code.specs.First.{first_below}
use Rattle.code.specs.Recovery.{bad_value, beyond, soft_at, value_at}
use Rattle.plan.specs.Plans.{Planned, block_length, sent_bits}
use Rattle.plan.specs.Requests.{verdict}
use Rattle.plan.specs.declared.plan.Plan.{Plan}
use Rattle.inspect.specs.declared.soft.SoftSheet.{SoftSheet}
use Rattle.inspect.specs.declared.soft.SoftFault.{SoftFault}
use Rattle.inspect.specs.declared.soft.SoftFault.TheVariants.{Untold, BadValue}

-- what refuses the received values in a body, if anything does: the first of the sent ones that is beyond its limits
abbrev pub values_verdict : Plan → (body : List ℕ) → Option Refusal
values_verdict plan body = bad_value (first_below (λ k. beyond (received_at body k)) (sent_bits plan))

-- a soft value for every place of the block
abbrev pub SoftValues : Plan → (body : List ℕ) → (llrs : List ℤ) → Type 0
SoftValues plan body llrs = (i : ℕ) → i < block_length plan → value_at llrs i ≡ soft_at plan (received_at body) i

-- recovery from a body into a buffer of N soft values
abbrev pub Softens : {X : Type 0} → Plan → (body : List ℕ) → Result X Refusal → (after : List ℤ) → Type 0
Softens plan body (Ok done) after = (values_verdict plan body ≡ None) × SoftValues plan body after
Softens plan body (Err e) after = values_verdict plan body ≡ Some e

abbrev pub SoftPlaces : Plan → (body : List ℕ) → Result (List ℤ) Refusal → Type 0
SoftPlaces plan body (Ok llrs) = (values_verdict plan body ≡ None) × SoftValues plan body llrs
SoftPlaces plan body (Err e) = values_verdict plan body ≡ Some e

-- the body of the values field
abbrev pub values_of : (input : List ℕ) → List ℕ
values_of input = body_at input values_at (due.Values (sent_of input))

-- the plan field of a file that is granted asks for a plan that is refused
pub record PlanRefused (input : List ℕ) (e : Refusal) : Type 0 where
  pub granted : file_fault input ≡ None
  pub numbers : PlanNumbers
  pub holds : PlanHolds (body_at input plan_at due.Plan) numbers
  pub refused : verdict (request_of numbers) ≡ Some e

-- the plan field of a file that is granted asks for this plan
pub record PlanOf (input : List ℕ) (plan : Plan) : Type 0 where
  pub granted : file_fault input ≡ None
  pub numbers : PlanNumbers
  pub holds : PlanHolds (body_at input plan_at due.Plan) numbers
  pub planned : Planned (request_of numbers) plan

pub record ValuesRefused (input : List ℕ) (e : Refusal) : Type 0 where
  pub plan : Plan
  pub own : PlanOf input plan
  pub refused : values_verdict plan (values_of input) ≡ Some e

abbrev pub SoftSheetOf : (input : List ℕ) → Result SoftSheet SoftFault → Type 0
SoftSheetOf input (Ok sheet) = PlanOf input sheet.plan × SoftValues sheet.plan (values_of input) sheet.llrs
SoftSheetOf input (Err (Untold e)) = (file_fault input ≡ Some e) ⊎ PlanRefused input e
SoftSheetOf input (Err (BadValue e)) = ValuesRefused input e
