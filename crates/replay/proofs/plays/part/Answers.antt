use Rattle.std.proofs.Common.{refl}
use Rattle.replay.proofs.Parts.{part-is}
use Rattle.replay.proofs.plays.part.Goals as goal

pub returns : goal.returns
returns c = part-is c.args.values.now _ c.args.at c.args.count c.min.result c.min-2.result c.min.ensures refl c.min-2.ensures
