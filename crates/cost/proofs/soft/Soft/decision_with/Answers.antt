use Rattle.std.proofs.Common.{get_or, pos, ◌∙◌, w32, SFits, rules}
use Rattle.std.proofs.lemmas.Int.{to_z-of_z}
use Rattle.bits.specs.Row.{row_bit}
use Rattle.cost.specs.Block.{llr_of}
use Rattle.cost.proofs.Levels.{ends-in-decision}
use Rattle.cost.proofs.soft.Soft.decision_with.Goals as goal

pub returns-clause-value : goal.returns-clause-value
returns-clause-value c =
    let ys = c.descend.new.scratch in
    let block = c.args.self.now in
    let fits : SFits w32 (get_or ys 1 (pos 0)) = search rules in
    to_z-of_z w32 _ fits
    ∙ ends-in-decision block.n (llr_of block) (row_bit c.args.row.now) c.args.i ys c.requires.place c.descend.ensures.levels
