use Rattle.clean.proofs.Encoder.{finished-received}
use Rattle.clean.proofs.finished_words_received.Goals as goal

pub returns : goal.returns
returns g c = λ x. finished-received _ _ _ _ (g.met.C.Judge.accepted_length x) (g.met.C.Finish.finished_accepted x) (g.met.C.Finish.finished_reads_back x)
