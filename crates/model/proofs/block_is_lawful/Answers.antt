use Rattle.model.proofs.Blocks.{block-is-lawful}
use Rattle.model.proofs.block_is_lawful.Goals as goal

pub returns : goal.returns
returns c = block-is-lawful
