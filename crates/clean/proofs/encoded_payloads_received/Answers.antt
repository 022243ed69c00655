use Rattle.clean.proofs.Encoder.{encoded-received}
use Rattle.clean.proofs.encoded_payloads_received.Goals as goal

pub returns : goal.returns
returns g c = λ x. encoded-received _ _ _ _ (c.finished_words_received.ensures x)
