use Rattle.std.proofs.Common.{◌≡◌, suc, ◌+◌, ◌^◌, ◌<◌, ◌≤◌, sym, refl, ◌∙◌, arith, pow_mono}
use Rattle.cost.specs.Rows.{path_at}
use Rattle.model.specs.Blocks.{meaning_of}
use Rattle.decoder.specs.Blocks.{plan_in, llr_in}
use Rattle.decoder.proofs.Apart.{apart-put}
use Rattle.decoder.proofs.Steps.{skips, puts-child, put-later, parent-path}
use Rattle.decoder.proofs.state.State.put_child.Goals as goal

pub left_out-requires : goal.left_out-requires
left_out-requires g c =
    let most : 2 ^ c.args.self.now.block.plan.n ≤ 2 ^ 10 = pow_mono c.args.self.now.block.plan.sized.1 in
    record { size = let h = c.requires.place in omega arith }

pub returns-then-left_out : goal.returns-then-left_out
returns-then-left_out g c =
    let d = c.args.self.now in
    let check = meaning_of g.C.Judge d.check in
    let most : 2 ^ d.block.plan.n ≤ 2 ^ 10 = pow_mono d.block.plan.sized.1 in
    let place : c.args.c.length < 1024 = let h = c.requires.place in omega arith in
    let paths = path_at d.rows in
    let paths' = path_at c.branch-self.new.self in
    let row = c.free_row-row.result in
    record {
      model = skips (plan_in d.block) (llr_in d.block) check d.counts.most_failures d.counts.most_steps d.counts.steps d.counts.failures d.phase paths paths' (g.S.Store.kept d.store) (g.S.Store.capacity d.store) (g.S.Store.floor d.store) d.counts.serial c.args.c c.args.bit row c.requires.ready.phase c.branch-self.ensures c.free_row-row.ensures.inside place c.free_row-row.ensures.free (sym c.left_out.ensures ∙ c.if-left_out.true);
      later = c.requires.ready.later;
      parent = parent-path paths paths' c.args.c c.args.bit row c.branch-self.ensures;
      apart = (λ h. h, omega arith);
      frame = record { framed = record { check = refl; block = refl; most_failures = refl; most_steps = refl; steps = refl }; phase = refl; failures = refl };
    }

pub returns : goal.returns
returns g c =
    let d = c.args.self.now in
    let s = d.store in
    let t = c.put.new.self in
    let check = meaning_of g.C.Judge d.check in
    let most : 2 ^ d.block.plan.n ≤ 2 ^ 10 = pow_mono d.block.plan.sized.1 in
    let place : c.args.c.length < 1024 = let h = c.requires.place in omega arith in
    let paths = path_at d.rows in
    let paths' = path_at c.branch-self.new.self in
    let row = c.free_row-row.result in
    let sum = c.saturating_add.ensures in
    let next = c.saturating_add-self.ensures in
    record {
      model =
          let fits = c.requires.ready.fits in
          let small = c.requires.costs.fits in
          let serial : c.saturating_add-self.result ≡ suc d.counts.serial = omega arith in
          let total : c.saturating_add.result ≡ c.args.c.metric + c.args.more = omega arith in
          puts-child (plan_in d.block) (llr_in d.block) check d.counts.most_failures d.counts.most_steps d.counts.steps d.counts.failures d.phase paths paths' (g.S.Store.kept s) (g.S.Store.capacity s) (g.S.Store.floor s) d.counts.serial c.args.c c.args.bit row c.requires.ready.phase c.branch-self.ensures c.free_row-row.ensures.inside place c.free_row-row.ensures.free
          (g.S.Store.kept t) (g.S.Store.capacity t) (g.S.Store.floor t) c.saturating_add-self.result c.saturating_add.result (c.args.c.length + 1)
          (sym c.left_out.ensures ∙ c.if-left_out.false) serial refl (total ∙ c.requires.costs.cost) c.put.ensures.kept c.put.ensures.capacity c.put.ensures.floor (g.met.S.Store.within s) c.requires.ready.later;
      later =
          let fits = c.requires.ready.fits in
          let serial : d.counts.serial < c.saturating_add-self.result = omega arith in
          put-later (g.S.Store.capacity s) (g.S.Store.kept s) (g.S.Store.kept t) (record { metric = c.saturating_add.result; length = c.args.c.length + 1; serial = d.counts.serial; row = row }) c.saturating_add-self.result c.requires.ready.later serial c.put.ensures.kept;
      parent = parent-path paths paths' c.args.c c.args.bit row c.branch-self.ensures;
      apart = (λ h. apart-put (g.S.Store.capacity s) (g.S.Store.kept s) (g.S.Store.kept t) (record { metric = c.saturating_add.result; length = c.args.c.length + 1; serial = d.counts.serial; row = row }) h c.free_row-row.ensures.free c.put.ensures.kept, omega arith);
      frame = record { framed = record { check = refl; block = refl; most_failures = refl; most_steps = refl; steps = refl }; phase = refl; failures = refl };
    }
