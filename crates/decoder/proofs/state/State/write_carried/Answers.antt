use Rattle.std.proofs.Common.{map, length, ap, ◌∙◌}
use Rattle.code.specs.Sending.{byte_of}
use Rattle.decoder.proofs.Shows.{read-accepted}
use Rattle.decoder.proofs.state.State.write_carried.Goals as goal

pub returns : goal.returns
returns g c = λ accepted.
    let check = c.args.self.now.check in
    let a = length c.args.output.now in
    let word = c.args.word.now in
    c.write_bytes.ensures
    ∙ ap (map byte_of) (read-accepted (g.C.Judge.longest check) (g.C.Judge.bits check) (g.C.Judge.carried check) a word c.args.payload.now c.read.new.payload c.read.result (g.met.C.Judge.accepted_length check a word accepted) c.requires.size c.read.ensures.result c.read.ensures.ok)
