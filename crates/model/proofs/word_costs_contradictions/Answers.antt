use Rattle.model.proofs.Blocks.{word-costs}
use Rattle.model.proofs.word_costs_contradictions.Goals as goal

pub returns : goal.returns
returns c = word-costs
