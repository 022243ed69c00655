use Rattle.cost.proofs.Filling.{written-zeros}
use Rattle.cost.proofs.soft.load.padded.Goals as goal

pub returns-clause-values : goal.returns-clause-values
returns-clause-values c = written-zeros c.args.llrs.now _ 1024 c.copy_from_slice.ensures.after
