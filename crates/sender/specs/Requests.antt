-- When there is a request of given parts. Assumes nothing.
use Rattle.std.specs.Prelude.{◌≡◌, ℕ, cond, ◌||◌, Some, None, Ok, Err, Option, Result, ◌==◌, nat_lt}
use Rattle.std.specs.Global.{Vec}
use Rattle.block.specs.declared.numbers.PlanNumbers.{PlanNumbers}
use Rattle.block.specs.declared.numbers.SearchNumbers.{SearchNumbers}
use Rattle.sender.specs.declared.request.Request.{Request}
use Rattle.sender.specs.declared.request.Unfit.{Unfit}
use Rattle.sender.specs.declared.request.Unfit.TheVariants.{Words, Magnitude}

-- which part is beyond its limits: no words wanted, then a magnitude that is not 1 to 4,095
abbrev pub unfit : (words magnitude : ℕ) → Option Unfit
unfit words magnitude =
    cond (words == 0) (Some Words) (cond (magnitude == 0 || nat_lt 4095 magnitude) (Some Magnitude) None)

pub record Holds (numbers : PlanNumbers) (limits : SearchNumbers) (bits : Vec ℕ) (size : ℕ) (turns : Vec ℕ) (q : Request) : Type 0 where
  pub plan : q.plan ≡ numbers
  pub «search» : q.«search» ≡ limits
  pub payload : q.payload ≡ bits
  pub magnitude : q.magnitude ≡ size
  pub flips : q.flips ≡ turns

abbrev pub Requested : PlanNumbers → SearchNumbers → Vec ℕ → ℕ → Vec ℕ → Result Request Unfit → Type 0
Requested plan limits payload magnitude flips (Ok q) =
    (unfit limits.words magnitude ≡ None) × Holds plan limits payload magnitude flips q
Requested plan limits payload magnitude flips (Err e) = unfit limits.words magnitude ≡ Some e
