use Rattle.std.proofs.Common.{get_or, pos, ◌∙◌, arith, w32, SFits, rules}
use Rattle.std.proofs.lemmas.Int.{to_z-of_z}
use Rattle.cost.proofs.Filling.{kept-on, kept-filled}
use Rattle.cost.proofs.Levels.{ends-in-decision}
use Rattle.cost.proofs.Sharing.{levels-top}
use Rattle.cost.proofs.soft.Soft.decision.Goals as goal

pub descend-requires : goal.descend-requires
descend-requires c =
    record {
      place = (c.requires.place, omega arith);
      room = omega arith;
      levels = levels-top c.args.self.now.n _ _ _ c.args.scratch.now _ c.fill_top.ensures;
    }

pub returns : goal.returns
returns c =
    let fits : SFits w32 (get_or c.descend.new.scratch 1 (pos 0)) = search rules in
    record {
      value =
          to_z-of_z w32 _ fits
          ∙ ends-in-decision c.args.self.now.n _ _ c.args.i c.descend.new.scratch c.requires.place c.descend.ensures.levels;
      levels = c.descend.ensures.levels;
      around = kept-on (kept-filled c.args.self.now.n c.args.self.now.n _ _ _ (omega arith) c.fill_top.ensures) c.descend.ensures.around;
    }
