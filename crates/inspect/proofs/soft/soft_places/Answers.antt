-- What is written to the front of the buffer is what the buffer holds there. Assumes nothing.
use Rattle.std.proofs.Common.{◌≡◌, length, pos, ◌∙◌, arith, rules}
use Rattle.std.proofs.lemmas.List.{get_or_append_left}
use Rattle.plan.specs.Plans.{block_length}
use Rattle.inspect.proofs.soft.soft_places.Goals as goal

pub returns : goal.returns
returns c =
    let size : length c.recover_from.new.llrs ≡ block_length c.args.plan.now = search rules in (
      c.in_ok-recover_from.ensures.0,
      λ i l. get_or_append_left c.recover_from.new.llrs _ (pos 0) i (omega arith) ∙ c.in_ok-recover_from.ensures.1 i l,
    )
