use Rattle.std.proofs.Common.{rules}
use Rattle.crc.specs.Spread.{sound}
use Rattle.outer.proofs.spread.SpreadJudge.accepts.Goals as goal

pub returns : goal.returns
unfolding sound
returns c = search rules
