use Rattle.cost.proofs.laws.clean_word.Goals as goal
use Rattle.cost.proofs.Clean.{costs-nothing, bit-costs-nothing, keeps-zeros, wrong-bit-costs}

pub returns : goal.returns
returns c = record { path = costs-nothing; bit = bit-costs-nothing; zeros = keeps-zeros; wrong = wrong-bit-costs }
