use Rattle.std.proofs.Common.{rules}
use Rattle.std.proofs.iter.runs.Sources.{ranges}
use Rattle.cost.proofs.soft.again.shared_level.Goals as goal

pub returns-clause-shared : goal.returns-clause-shared
returns-clause-shared c = search (rules, ranges)
