use Rattle.std.proofs.Common.{◌≡◌, suc, ◌-◌, ◌^◌, ◌≤◌, subst, arith, pow_mono}
use Rattle.bits.specs.Row.{row_bit}
use Rattle.cost.specs.Block.{llr_of}
use Rattle.cost.specs.Levels.{Levels}
use Rattle.cost.proofs.Descent.{descent-turn, descent-small}
use Rattle.cost.proofs.Sharing.{descent-from}
use Rattle.cost.proofs.soft.Soft.descend.Goals as goal

pub loop-m-init : goal.loop-m-init
loop-m-init c =
    descent-from c.args.self.now.n _ _ _ c.args.low c.args.scratch.now c.requires.place.1 c.args.self.now.bounded c.requires.levels

pub fill_level-requires : goal.fill_level-requires
fill_level-requires c =
    let short : 2 ^ c.args.self.now.n ≤ 2 ^ 10 = pow_mono c.args.self.now.size in
    let low : 2 ^ suc (c.loop-m.m - 1) ≤ 2 ^ c.args.self.now.n = pow_mono (omega arith) in
    record {
      size = (omega arith, omega arith);
      room = omega arith;
      bounded =
          descent-small c.args.self.now.n _ _ _ c.loop-m.m _ c.loop-m.scratch c.loop-m-test.true (omega arith)
          c.args.self.now.size c.loop-m.invariant;
    }

pub loop-m-preserved : goal.loop-m-preserved
loop-m-preserved c =
    descent-turn c.args.self.now.n _ _ _ c.loop-m.m _ c.loop-m.scratch _ c.loop-m-test.true (omega arith)
    c.fill_level.ensures c.loop-m.invariant

pub returns : goal.returns
returns c =
    let done : c.loop-m.m ≡ 0 = omega arith in
    record {
      levels =
          subst (λ m. Levels c.args.self.now.n (llr_of c.args.self.now) (row_bit c.args.row.now) c.args.i m c.loop-m.scratch)
          done c.loop-m.invariant.levels;
      around = c.loop-m.invariant.around;
    }
