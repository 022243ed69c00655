use Rattle.std.proofs.Common.{◌≡◌, ◌≤◌, length, drop, vec_items, vec_len, vec_capacity}
use Rattle.decoder.specs.States.{model_of}
use Rattle.replay.specs.Replays.{calls_of}
use Rattle.replay.proofs.Replayed.{Remains}
use Rattle.replay.proofs.replays.replay.Given as goal

abbrev pub invariant-loop-call : goal.invariant-loop-call
invariant-loop-call g l =
    let calls = calls_of g.C.Judge l.initial.decoder.state.check l.values (length l.initial.scratch) (length l.initial.output) l.calls in
    Remains (model_of g.S.Store g.C.Judge l.initial.decoder.state) (model_of g.S.Store g.C.Judge l.decoder.state) calls (drop l.call-index calls) (vec_items l.answers) l.initial.scratch l.scratch l.initial.output l.output
    × (l.decoder.state.check ≡ l.initial.decoder.state.check)
    × (vec_len l.answers ≡ l.call-index)
    × (length l.calls ≤ vec_capacity l.answers)
