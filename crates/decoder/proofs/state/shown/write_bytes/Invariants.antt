use Rattle.std.proofs.Common.{◌≡◌, map, length, take}
use Rattle.code.specs.Sending.{byte_of}
use Rattle.decoder.proofs.state.shown.write_bytes.Given as goal

abbrev pub invariant-loop-k : goal.invariant-loop-k
invariant-loop-k l = (take l.k l.output ≡ map byte_of (take l.k l.bits)) × (length l.output ≡ length l.bits)
