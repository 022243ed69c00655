-- What a block of the decoder holds. Assumes nothing.
use Rattle.std.specs.Prelude.{ℕ, ℤ}
use Rattle.cost.specs.Block.{llr_of}
use Rattle.cost.specs.declared.soft.Soft.{Soft}
use Rattle.plan.specs.declared.plan.Plan.{Plan}
use Rattle.decoder.specs.declared.block.Block.{Block}

abbrev pub plan_in : Block → Plan
plan_in block = block.plan

abbrev pub llr_in : Block → ℕ → ℤ
llr_in block = llr_of block.soft

abbrev pub soft_of : Block → Soft
soft_of block = block.soft
