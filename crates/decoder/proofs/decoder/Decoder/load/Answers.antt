use Rattle.std.proofs.Common.{◌≡◌, rules}
use Rattle.search.specs.Calls.{Load}
use Rattle.search.specs.Search.{called}
use Rattle.search.specs.Stores.{ruled}
use Rattle.decoder.specs.Answers.{request_of}
use Rattle.decoder.specs.States.{model_of}
use Rattle.decoder.proofs.Firsts.{clean-first}
use Rattle.decoder.proofs.decoder.Decoder.load.Goals as goal

pub returns-clause-clean : goal.returns-clause-clean
returns-clause-clean g c =
    let d = c.args.self.now.state in
    let model : model_of g.S.Store g.C.Judge c.start.new.self ≡ (called ruled (model_of g.S.Store g.C.Judge d) (Load (request_of g.C.Judge d.check c.args.plan.now c.args.llrs.now c.args.limits))).0 = search rules in
    λ _. clean-first g.C.Judge d.check c.args.plan.now c.args.llrs.now c.args.limits (model_of g.S.Store g.C.Judge d) (model_of g.S.Store g.C.Judge c.start.new.self) (g.met.C.Judge.accepted_hopeful d.check) c.in_ok-block.ensures.0 model
