use Rattle.clean.proofs.Encoder.{can-be-received}
use Rattle.clean.proofs.words_can_be_received.Goals as goal

pub returns : goal.returns
returns c = can-be-received
