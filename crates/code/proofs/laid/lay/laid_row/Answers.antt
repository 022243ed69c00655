-- Word bits, then parity sums: the laid word. Assumes nothing.
use Rattle.bits.specs.Row.{row_bit}
use Rattle.plan.specs.Plans.{kind_at}
use Rattle.code.proofs.Positions.{laid_both}
use Rattle.code.proofs.laid.lay.laid_row.Goals as goal

pub returns : goal.returns
returns c =
    laid_both (kind_at c.args.plan.now) c.args.word.now (row_bit c.place_word-row.result) (row_bit c.add_parity.new.row)
    c.place_word-row.ensures c.add_parity.ensures
