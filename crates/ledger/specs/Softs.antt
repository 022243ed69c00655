-- Where the soft values of a block file are beyond the limits of a block. Assumes nothing.
use Rattle.std.specs.Prelude.{◌≡◌, ℕ, ◌<◌, true, false, List}
use Rattle.base.specs.declared.refusal.Refusal.{Refusal}
use Rattle.base.specs.declared.refusal.Refusal.TheVariants.{Block}
use Rattle.block.specs.Fields.{received_at}
use Rattle.code.specs.Recovery.{soft_at}
use Rattle.cost.specs.Limits.{is_beyond}
use Rattle.plan.specs.Plans.{block_length}
use Rattle.plan.specs.declared.plan.Plan.{Plan}

-- the refusal is that of a load, at the first place whose soft value is beyond its limits
pub record IsFirstBeyond (plan : Plan) (body : List ℕ) (e : Refusal) : Type 0 where
  pub at : ℕ
  pub refusal : e ≡ Block at
  pub place : at < block_length plan
  pub before : (i : ℕ) → i < at → is_beyond (soft_at plan (received_at body) i) ≡ false
  pub beyond : is_beyond (soft_at plan (received_at body) at) ≡ true
