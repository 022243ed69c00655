use Rattle.std.proofs.Common.{◌≡◌, false, get_or, ◌∙◌, arith, rules}
use Rattle.std.proofs.lemmas.List.{length-set}
use Rattle.code.specs.Sending.{byte_of}
use Rattle.decoder.proofs.Shows.{bytes-more}
use Rattle.decoder.proofs.state.shown.write_bytes.Goals as goal

pub loop-k-preserved : goal.loop-k-preserved
loop-k-preserved c =
    let (front, size) = c.loop-k.invariant in
    let inside = c.loop-k-test.true in
    let value : c.from.result ≡ byte_of (get_or c.args.bits.now c.loop-k.k false) = search rules in
    (bytes-more c.args.bits.now c.loop-k.output c.loop-k.k c.from.result inside (omega arith) value front, length-set c.loop-k.output c.loop-k.k c.from.result ∙ size)
