use Rattle.clean.proofs.Advances.{received-payload-first}
use Rattle.clean.proofs.received_payload_first.Goals as goal

pub returns : goal.returns
returns g c = received-payload-first
