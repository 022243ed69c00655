use mathlib.Core.Bool.{xor}
use Rattle.std.proofs.Common.{◌%◌, false, ◌&&◌, eqb, refl, ◌∙◌, arith, rules}
use Rattle.std.proofs.lemmas.Iterator.{YieldsList-from_range}
use Rattle.std.proofs.lemmas.Iterator.Consumers.{fold_from_yields_List}
use Rattle.bits.specs.Row.{row_bit}
use Rattle.plan.specs.Kinds.{is_information}
use Rattle.plan.specs.Plans.{kind_at}
use Rattle.code.proofs.Positions.{xor_folded}
use Rattle.code.proofs.laid.positions.parity_sum.Goals as goal

pub returns : goal.returns
unfolding xor
returns c =
    let i = c.args.i in
    fold_from_yields_List _ (λ sum j. xor sum (is_information (kind_at c.args.plan.now j) && (eqb (j % 5) (i % 5) && row_bit c.args.row.now j))) false _
    c.fold.ensures.ran (YieldsList-from_range 0 i i refl (omega arith)) (λ a x b q k. search rules)
    ∙ xor_folded (λ j. is_information (kind_at c.args.plan.now j) && (eqb (j % 5) (i % 5) && row_bit c.args.row.now j)) i
