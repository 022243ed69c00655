use Rattle.search.proofs.Example.{two-bits-lawful, two-bits-answered, checked-lawful, checked-answered, second-parity}
use Rattle.search.proofs.examples_stand.Goals as goal

pub returns : goal.returns
returns c = record { lawful = two-bits-lawful; answers = two-bits-answered; checked_lawful = checked-lawful; checked_answers = checked-answered; parity = second-parity }
