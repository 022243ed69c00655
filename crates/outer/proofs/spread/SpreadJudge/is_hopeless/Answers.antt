use Rattle.std.proofs.Common.{sym, ◌∙◌, arith}
use Rattle.std.proofs.lemmas.Bool.{lt-leb}
use Rattle.crc.proofs.Interleaving.{unbroken-beyond}
use Rattle.outer.proofs.spread.SpreadJudge.is_hopeless.Goals as goal

pub returns-else-a-longest_of : goal.returns-else-a-longest_of
returns-else-a-longest_of c =
    lt-leb c.args.a c.longest_of.result c.if-a-longest_of.false
    ∙ sym (unbroken-beyond c.args.self.now c.args.a c.args.beginning.now (omega arith))
