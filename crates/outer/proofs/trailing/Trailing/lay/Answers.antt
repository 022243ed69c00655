use Rattle.outer.specs.Followed.{laid}
use Rattle.outer.proofs.trailing.Trailing.lay.Goals as goal

pub returns : goal.returns
returns c =
    laid c.args.self c.args.payload.now c.fill.new.self c.copy_from_slice.new.self c.divide.new.bits
    c.copy_from_slice-2.new.self c.divisor.result.now _ c.requires.room (c.fill.ensures.after (λ y e. e))
    c.copy_from_slice.ensures.after c.divisor.ensures.value c.divide.ensures c.copy_from_slice-2.ensures.after
