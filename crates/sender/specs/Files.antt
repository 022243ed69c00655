-- The block file that a receiver sees of a request. Assumes nothing.
use Rattle.std.specs.Prelude.{◌≡◌, ℕ, ◌<◌, List, None, Ok, Err, vec_items, Result}
use Rattle.std.specs.Global.{Vec}
use Rattle.block.specs.Fields.{received_at}
use Rattle.block.specs.File.{file_fault}
use Rattle.plan.specs.Plans.{sent_bits, place_of}
use Rattle.plan.specs.declared.plan.Plan.{Plan}
use Rattle.sender.specs.Arrivals.{value_of, turned}
use Rattle.sender.specs.Images.{image_of, values_body}
use Rattle.sender.specs.Sends.{PlanIs, Sent, code_of, FailsWith}
use Rattle.sender.specs.declared.failure.Failure.{Failure}
use Rattle.sender.specs.declared.request.Request.{Request}

-- the file is laid out as the rules say and granted by a reader; value k is the magnitude, above 0 where the code bit at
-- its place is 0 and below 0 where it is 1, turned where the request lists k
pub record FileIs (request : Request) (file : List ℕ) : Type 0 where
  pub plan : Plan
  pub bits : List ℕ
  pub planned : PlanIs request plan
  pub sent : Sent plan request bits
  pub image : file ≡ image_of request bits
  pub granted : file_fault file ≡ None
  pub arrives : (k : ℕ) → k < sent_bits plan
      → received_at (values_body request bits) k
      ≡ value_of request.magnitude (turned (vec_items request.flips) k (code_of plan request (place_of plan k)))

abbrev pub Files : Request → Result (Vec ℕ) Failure → Type 0
Files request (Ok file) = FileIs request (vec_items file)
Files request (Err failure) = FailsWith request failure
