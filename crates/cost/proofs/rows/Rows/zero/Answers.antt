use Rattle.cost.proofs.Paths.{path-zero}
use Rattle.cost.proofs.rows.Rows.zero.Goals as goal

pub returns : goal.returns
returns c = path-zero 129 c.zero-row.result c.zero-row.ensures
