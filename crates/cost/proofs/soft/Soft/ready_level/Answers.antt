use Rattle.std.proofs.Common.{◌^◌, ◌≤◌, arith, pow_mono}
use Rattle.bits.specs.Row.{row_bit}
use Rattle.cost.specs.Block.{llr_of}
use Rattle.cost.proofs.Sharing.{levels-shared}
use Rattle.cost.proofs.soft.Soft.ready_level.Goals as goal

pub shared_level-requires : goal.shared_level-requires
shared_level-requires c =
    let size = c.args.self.now.size in
    let short : 2 ^ c.args.self.now.n ≤ 2 ^ 10 = pow_mono size in
    record { size = (size, let h = c.requires.place in omega arith) }

pub returns-in-Some-clause-levels : goal.returns-in-Some-clause-levels
returns-in-Some-clause-levels c =
    let block = c.args.self.now in
    let memo = c.in-Some.last in
    levels-shared block.n c.shared_level.result (llr_of block) (row_bit c.args.row.now) c.args.i (row_bit memo.path)
    memo.at c.args.scratch.now c.shared_level.ensures.shared (c.requires.held memo c.in-Some.is)
