-- Bits that agree at every index are the same. Assumes nothing.
use Rattle.std.proofs.Common.{◌≡◌, ◌<◌, false, eqb, length, sym, ◌∙◌, arith}
use Rattle.std.proofs.lemmas.List.{same_lists, get_or-map, get_or_default, length-map}
use Rattle.code.specs.Laying.{bits_of}
use Rattle.code.proofs.laid.bytes.read_bits.Goals as goal

pub returns : goal.returns
returns c =
    let bytes = c.args.bytes.now in
    let bits = c.loop-i.bits in
    let long : length bits ≡ length bytes = omega arith in
    same_lists bits (bits_of bytes) (long ∙ sym (length-map bytes (λ b. eqb b 1)))
    (λ k d l.
    let inside : k < length bytes = omega arith in
    get_or_default bits k d false l ∙ c.loop-i.invariant k (omega arith) ∙ sym (get_or-map (λ b. eqb b 1) bytes k 0 d inside))
