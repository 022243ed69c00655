use Rattle.decoder.proofs.Shows.{shown-payload}
use Rattle.decoder.proofs.decoder.Decoder.write_payload.Goals as goal

pub returns : goal.returns
returns g c = λ allowed.
    shown-payload g.S.Store g.C.Judge c.args.self.now.state c.in-Shown.c c.plan-plan.result.now _ c.length.result c.gather-word.result.now _ c.write_carried.new.output c.in-Shown.is c.args.self.now.coherent c.plan-plan.ensures c.path-path.ensures c.length.ensures.result c.gather-word.ensures c.requires.size c.write_carried.ensures
