-- What a call answers, as a line of output holds it. Assumes nothing.
use Rattle.std.specs.Prelude.{ℕ, List, true, false, Some, None, codes, decimal}
use Rattle.store.specs.Texts.{candidate_text}
use Rattle.storecalls.specs.declared.call.Answer.{Answer}
use Rattle.storecalls.specs.declared.call.Answer.TheVariants.{Done, Taken, Number, Metric, Held}

abbrev pub answer_text : Answer → List ℕ
answer_text Done = codes "done"
answer_text (Taken None) = codes "empty"
answer_text (Taken (Some c)) = candidate_text c
answer_text (Number n) = decimal n
answer_text (Metric None) = codes "-"
answer_text (Metric (Some m)) = decimal m
answer_text (Held true) = codes "yes"
answer_text (Held false) = codes "no"
