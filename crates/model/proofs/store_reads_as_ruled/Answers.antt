use Rattle.model.proofs.Reading.{reads-as-ruled}
use Rattle.model.proofs.store_reads_as_ruled.Goals as goal

pub returns : goal.returns
returns c = reads-as-ruled
