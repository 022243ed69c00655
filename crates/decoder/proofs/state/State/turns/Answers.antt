use Rattle.std.proofs.Common.{◌≡◌, suc, ◌+◌, ◌-◌, ◌∙◌, arith}
use Rattle.decoder.specs.declared.report.Met.TheVariants as met
use Rattle.decoder.proofs.Advances.{Done, ended, done-halted, done-paused, done-shown, goes-again}
use Rattle.decoder.proofs.state.State.turns.Goals as goal

pub loop-preserved : goal.loop-preserved
loop-preserved g c =
    let (going, check, block, work) = c.loop.invariant in
    let left : c.args.budget - c.loop.counter ≡ suc (c.args.budget - (c.loop.counter + 1)) = let h = c.loop-test.true in omega arith in (
      goes-again g.S.Store g.C.Judge c.args.self.now c.loop.self c.args.budget (c.args.budget - c.loop.counter) going c.step.new.self (c.args.budget - (c.loop.counter + 1)) left c.in_default.ensures c.step.ensures.model c.step.ensures.sound c.in_default-phase.not-Shown,
      c.step.ensures.check.0 ∙ check,
      c.step.ensures.check.1 ∙ block,
      c.step.ensures.work ∙ work,
    )

pub returns-in-Some : goal.returns-in-Some
returns-in-Some g c =
    let d = c.args.self.now in
    let (going, check, _, _) = c.loop.invariant in
    let done : Done g.S.Store g.C.Judge d (ended c.loop.self) c.args.budget c.in-Some.met =
    done-halted g.S.Store g.C.Judge d c.loop.self c.args.budget (c.args.budget - c.loop.counter) going c.in-Some.met c.in-Some.ensures in
    record { model = done.model; met = done.met; sound = done.sound; loaded = done.loaded; check = check }

pub returns-in-Shown : goal.returns-in-Shown
returns-in-Shown g c =
    let d = c.args.self.now in
    let (going, check, _, _) = c.loop.invariant in
    let left : c.args.budget - c.loop.counter ≡ suc (c.args.budget - (c.loop.counter + 1)) = let h = c.loop-test.true in omega arith in
    let done : Done g.S.Store g.C.Judge d c.step.new.self c.args.budget met.Shown =
    done-shown g.S.Store g.C.Judge d c.loop.self c.args.budget (c.args.budget - c.loop.counter) going c.step.new.self (c.args.budget - (c.loop.counter + 1)) left c.in_default.ensures c.step.ensures.model c.step.ensures.sound c.in-Shown.field-0 c.in-Shown.is in
    record { model = done.model; met = done.met; sound = done.sound; loaded = done.loaded; check = c.step.ensures.check.0 ∙ check }

pub returns-in-Some-halt : goal.returns-in-Some-halt
returns-in-Some-halt g c =
    let d = c.args.self.now in
    let (going, check, _, _) = c.loop.invariant in
    let done : Done g.S.Store g.C.Judge d (ended c.loop.self) c.args.budget c.in-Some-halt.met =
    done-halted g.S.Store g.C.Judge d c.loop.self c.args.budget (c.args.budget - c.loop.counter) going c.in-Some-halt.met c.in-Some-halt.ensures in
    record { model = done.model; met = done.met; sound = done.sound; loaded = done.loaded; check = check }

pub returns-in-None : goal.returns-in-None
returns-in-None g c =
    let d = c.args.self.now in
    let (going, check, _, _) = c.loop.invariant in
    let left : c.args.budget - c.loop.counter ≡ 0 = let h = c.loop-test.false in omega arith in
    let done : Done g.S.Store g.C.Judge d c.loop.self c.args.budget met.Paused =
    done-paused g.S.Store g.C.Judge d c.loop.self c.args.budget (c.args.budget - c.loop.counter) going left c.in-None.ensures in
    record { model = done.model; met = done.met; sound = done.sound; loaded = done.loaded; check = check }
