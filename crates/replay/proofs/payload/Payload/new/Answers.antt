use Rattle.std.proofs.Common.{ℕ, min, List, length, ap₂}
use Rattle.replay.specs.declared.payload.Payload.{Payload}
use Rattle.replay.proofs.Parts.{padded}
use Rattle.replay.proofs.payload.Payload.new.Goals as goal

pub returns : goal.returns
returns c =
    let bytes = c.args.bytes.now in
    let make : List ℕ → ℕ → Payload = λ bits len. record { bits = bits; len = len } in
    ap₂ make (padded (min (length bytes) 512) c.min-len.result 512 0 c.copy_from_slice.new.self bytes c.min-len.ensures c.copy_from_slice.ensures.after) c.min-len.ensures
