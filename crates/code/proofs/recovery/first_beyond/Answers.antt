use Rattle.std.proofs.Common.{pos, ◌∙◌, rules, tests}
use Rattle.std.proofs.lemmas.Iterator.{YieldsList-from_slice}
use Rattle.std.proofs.lemmas.Iterator.Search.{position_from_yields_List}
use Rattle.code.specs.Recovery.{beyond}
use Rattle.code.proofs.First.{first_position}
use Rattle.code.proofs.recovery.first_beyond.Goals as goal

pub returns : goal.returns
returns c =
    position_from_yields_List beyond _ _ _ c.position.ensures.ran (YieldsList-from_slice c.args.values.now cc) (λ x b q k. search (rules, tests))
    ∙ first_position beyond c.args.values.now (pos 0)
