use Rattle.std.proofs.Common.{◌≡◌, suc, ◌<◌, ◌≤◌, sym, refl, ap, ◌∙◌, arith}
use Rattle.plan.specs.Plans.{block_length}
use Rattle.decoder.specs.Blocks.{plan_in}
use Rattle.decoder.proofs.Wholes.{none-taken, after-take, took-may, children-step, word-step}
use Rattle.decoder.proofs.state.State.step.Goals as goal

pub returns-in_default-clause-model : goal.returns-in_default-clause-model
returns-in_default-clause-model g c =
    let took = c.take.ensures in
    none-taken g.S.Store g.C.Judge c.args.self.now c.take.new.self (sym took.result ∙ c.in_default.is) took.kept took.capacity took.floor

pub put_children-requires-clause-may : goal.put_children-requires-clause-may
put_children-requires-clause-may g c =
    let d = c.args.self.now in
    let may = c.requires.may in
    let took = c.take.ensures in
    let steps : c.saturating_add-self.result ≡ suc d.counts.steps = let h = c.saturating_add-self.ensures in let k = d.counts.brief in let m = may.steps in omega arith in
    took-may g.S.Store g.C.Judge d _ c.in-Some.c (after-take g.S.Store g.C.Judge d c.take.new.self c.saturating_add-self.result _ _ c.in-Some.c (sym took.result ∙ c.in-Some.is) took.kept took.capacity took.floor steps) may.sound may.searching may.steps

pub returns-then-c-length : goal.returns-then-c-length
returns-then-c-length g c =
    let d = c.args.self.now in
    let may = c.requires.may in
    let took = c.take.ensures in
    let done = c.put_children.ensures in
    let steps : c.saturating_add-self.result ≡ suc d.counts.steps = let h = c.saturating_add-self.ensures in let k = d.counts.brief in let m = may.steps in omega arith in
    let part : c.in-Some.c.length < block_length (plan_in d.block) = let h = c.if-c-length.true in let k = c.length.ensures.result ∙ ap block_length c.plan.ensures in omega arith in
    let s = children-step g.S.Store g.C.Judge d _ c.put_children.new.self c.in-Some.c may part done.model done.apart done.frame (after-take g.S.Store g.C.Judge d c.take.new.self c.saturating_add-self.result _ _ c.in-Some.c (sym took.result ∙ c.in-Some.is) took.kept took.capacity took.floor steps) refl refl refl in
    record { model = s.model; sound = s.sound; loaded = s.loaded; check = s.check; work = done.work }

pub returns : goal.returns
returns g c =
    let d = c.args.self.now in
    let may = c.requires.may in
    let took = c.take.ensures in
    let done = c.judge.ensures in
    let steps : c.saturating_add-self.result ≡ suc d.counts.steps = let h = c.saturating_add-self.ensures in let k = d.counts.brief in let m = may.steps in omega arith in
    let long : block_length (plan_in d.block) ≤ c.in-Some.c.length = let h = c.if-c-length.false in let k = c.length.ensures.result ∙ ap block_length c.plan.ensures in omega arith in
    let s = word-step g.S.Store g.C.Judge d _ c.judge.new.self c.in-Some.c may long done.model done.store done.frame done.shown done.loaded (after-take g.S.Store g.C.Judge d c.take.new.self c.saturating_add-self.result _ _ c.in-Some.c (sym took.result ∙ c.in-Some.is) took.kept took.capacity took.floor steps) refl refl refl in
    record { model = s.model; sound = s.sound; loaded = s.loaded; check = s.check; work = refl }
