use Rattle.std.proofs.Common.{◌≡◌, ◌-◌}
use Rattle.cost.specs.Workspace.{soft_in}
use Rattle.decoder.specs.Blocks.{soft_of}
use Rattle.decoder.proofs.Advances.{Going}
use Rattle.decoder.proofs.state.State.turns.Given as goal

abbrev pub invariant-loop : goal.invariant-loop
invariant-loop g l =
    Going g.S.Store g.C.Judge l.initial.self l.self l.budget (l.budget - l.counter)
    × (l.self.check ≡ l.initial.self.check)
    × (l.self.block ≡ l.initial.self.block)
    × (soft_in l.work ≡ soft_of l.initial.self.block)
