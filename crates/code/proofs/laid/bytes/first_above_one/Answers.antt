use Rattle.std.proofs.Common.{ltb, ◌∙◌, rules, tests}
use Rattle.std.proofs.lemmas.Iterator.{YieldsList-from_slice}
use Rattle.std.proofs.lemmas.Iterator.Search.{position_from_yields_List}
use Rattle.code.proofs.First.{first_position}
use Rattle.code.proofs.laid.bytes.first_above_one.Goals as goal

pub returns : goal.returns
returns c =
    position_from_yields_List (λ b. ltb 1 b) _ _ _ c.position.ensures.ran (YieldsList-from_slice c.args.bytes.now cc) (λ x b q k. search (rules, tests))
    ∙ first_position (λ b. ltb 1 b) c.args.bytes.now 0
