use Rattle.std.proofs.Common.{arith, rules}
use Rattle.std.proofs.lemmas.Iterator.{YieldsList-from_range}
use Rattle.std.proofs.lemmas.Iterator.Search.{find_from_yields_List}
use Rattle.plan.specs.Plans.{block_length}
use Rattle.code.specs.Sending.{coded_plan, coded_at, shortened_one}
use Rattle.code.proofs.First.{first_in_range}
use Rattle.code.proofs.coded.Coded.first_shortened_one.Goals as goal

pub returns : goal.returns
returns c =
    let word = c.args.self.now in
    let p = shortened_one (coded_plan word) (coded_at word) in
    let n = block_length (coded_plan word) in
    first_in_range p n c.find.result
    (find_from_yields_List p _ _ _ c.find.ensures.ran (YieldsList-from_range 0 n n (cc) (omega arith)) (λ x b q k. search rules))
