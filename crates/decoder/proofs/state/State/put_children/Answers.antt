use Rattle.std.proofs.Common.{◌≡◌, true, false, [], ◌∷◌, sym, ap, ◌∙◌, ap₂, arith, rules}
use Rattle.code.specs.Lawful.{parity_sum}
use Rattle.cost.specs.Rows.{path_at}
use Rattle.plan.specs.Plans.{block_length, kind_at}
use Rattle.search.specs.Paths.{frozen, information, parity, parity_bit}
use Rattle.search.specs.Search.{put_child, put_children}
use Rattle.search.specs.Stores.{ruled}
use Rattle.model.specs.Blocks.{kind_of, kinds_of}
use Rattle.model.specs.Reading.{first_bits}
use Rattle.decoder.specs.Blocks.{plan_in}
use Rattle.decoder.specs.States.{loaded_of}
use Rattle.decoder.specs.Steps.{path_of}
use Rattle.decoder.proofs.Walks.{parity-read}
use Rattle.decoder.proofs.Wholes.{found-costs, costs-on, ready_on, searched-on, allowed-first}
use Rattle.decoder.proofs.state.State.put_children.Goals as goal

-- Frozen

pub put_child-requires-clause-costs : goal.put_child-requires-clause-costs
put_child-requires-clause-costs g c =
    let r = c.requires in
    let v = c.decision-value in
    found-costs c.args.self.now c.args.c false c.contradiction.result _ v.result _ (search rules) r.work v.ensures.value c.path-path.ensures c.contradiction.ensures r.place r.may.metric

pub returns-in-Frozen : goal.returns-in-Frozen
returns-in-Frozen g c =
    let d = c.args.self.now in
    let i = c.args.c.length in
    let kind : kinds_of (plan_in d.block) i ≡ frozen = ap kind_of (ap (λ q. kind_at q i) (sym c.plan.ensures) ∙ sym c.kind.ensures ∙ c.in-Frozen.is) in
    let one = c.put_child.ensures in
    record {
      model = one.model ∙ ap (put_children ruled (path_of d c.args.c) (loaded_of g.S.Store g.C.Judge d)) (sym (allowed-first (kinds_of (plan_in d.block)) (path_at d.rows c.args.c.row) i frozen kind));
      apart = (one.apart.0, let h = one.apart.1 in omega arith);
      frame = one.frame;
      work = c.decision-value.ensures.block;
    }

-- Parity

pub put_child-requires-in-Parity-clause-costs : goal.put_child-requires-in-Parity-clause-costs
put_child-requires-in-Parity-clause-costs g c =
    let r = c.requires in
    let v = c.decision-value in
    found-costs c.args.self.now c.args.c _ c.contradiction-in-Parity.result _ v.result _ (search rules) r.work v.ensures.value c.path-path.ensures c.contradiction-in-Parity.ensures r.place r.may.metric

pub returns-in-Parity : goal.returns-in-Parity
returns-in-Parity g c =
    let d = c.args.self.now in
    let p = plan_in d.block in
    let u = path_at d.rows c.args.c.row in
    let i = c.args.c.length in
    let kind : kinds_of p i ≡ parity = ap kind_of (ap (λ q. kind_at q i) (sym c.plan.ensures) ∙ sym c.kind.ensures ∙ c.in-Parity.is) in
    let sum : c.parity_sum-bit.result ≡ parity_bit (kinds_of p) (first_bits u i) i =
    c.parity_sum-bit.ensures ∙ ap₂ (λ q v. parity_sum (kind_at q) v i) c.plan-in-Parity.ensures c.path-path.ensures ∙ parity-read p u i in
    let one = c.put_child-in-Parity.ensures in
    record {
      model = one.model ∙ ap (put_children ruled (path_of d c.args.c) (loaded_of g.S.Store g.C.Judge d)) (ap (λ b. b ∷ []) (search (rules, sum)) ∙ sym (allowed-first (kinds_of p) u i parity kind));
      apart = (one.apart.0, let h = one.apart.1 in omega arith);
      frame = one.frame;
      work = c.decision-value.ensures.block;
    }

-- Information

pub put_child-requires-in-Information-clause-costs : goal.put_child-requires-in-Information-clause-costs
put_child-requires-in-Information-clause-costs g c =
    let r = c.requires in
    let v = c.decision-value in
    found-costs c.args.self.now c.args.c false c.contradiction-in-Information.result _ v.result _ (search rules) r.work v.ensures.value c.path-path.ensures c.contradiction-in-Information.ensures r.place r.may.metric

pub put_child-requires-in-Information-2 : goal.put_child-requires-in-Information-2
put_child-requires-in-Information-2 g c =
    let d = c.args.self.now in
    let e = c.put_child-in-Information.new.self in
    let r = c.requires in
    let v = c.decision-value in
    let one = c.put_child-in-Information.ensures in
    record {
      place = let h = r.place in let b = ap (λ k. block_length (plan_in k)) one.frame.framed.block in omega arith;
      ready = ready_on g.S.Store g.C.Judge d e r.may.ready r.may.serials one.frame.phase one.later one.apart.1;
      costs = costs-on d e c.args.c _ c.contradiction-in-Information-2.result one.frame.framed.block one.parent
          (found-costs d c.args.c _ c.contradiction-in-Information-2.result _ v.result _ (search rules) r.work v.ensures.value c.path-path.ensures c.contradiction-in-Information-2.ensures r.place r.may.metric);
    }

pub returns-in-Information : goal.returns-in-Information
returns-in-Information g c =
    let d = c.args.self.now in
    let i = c.args.c.length in
    let kind : kinds_of (plan_in d.block) i ≡ information = ap kind_of (ap (λ q. kind_at q i) (sym c.plan.ensures) ∙ sym c.kind.ensures ∙ c.in-Information.is) in
    let one = c.put_child-in-Information.ensures in
    let two = c.put_child-in-Information-2.ensures in
    record {
      model =
          two.model ∙ ap₂ (λ q s. put_child ruled q s true) one.parent one.model
          ∙ ap (put_children ruled (path_of d c.args.c) (loaded_of g.S.Store g.C.Judge d)) (sym (allowed-first (kinds_of (plan_in d.block)) (path_at d.rows c.args.c.row) i information kind));
      apart = (λ h. two.apart.0 (one.apart.0 h), let a = one.apart.1 in let b = two.apart.1 in omega arith);
      frame = searched-on d c.put_child-in-Information.new.self c.put_child-in-Information-2.new.self one.frame two.frame;
      work = c.decision-value.ensures.block;
    }
