-- Sums onto a cleared buffer are the soft values. Assumes nothing.
use Rattle.std.proofs.Common.{◌≡◌, length, sym, ◌∙◌, arith}
use Rattle.plan.specs.Plans.{block_length, sent_bits}
use Rattle.code.specs.Recovery.{value_at}
use Rattle.code.proofs.Recovered.{soft-from, verdict-none}
use Rattle.code.proofs.recovery.recover.Goals as goal

pub returns : goal.returns
returns c =
    let plan = c.args.plan.now in
    let values = c.args.values.now in
    let sent : length values ≡ sent_bits plan = omega arith in
    let block : length c.args.llrs.now ≡ block_length plan = omega arith in (
      verdict-none plan values (length c.args.llrs.now) sent block (sym c.first_beyond.ensures ∙ c.in_default.is),
      λ i l. soft-from plan (value_at values) i (length values) (value_at c.clear.new.llrs i) (value_at c.add_values.new.llrs i)
          sent (c.clear.ensures i (omega arith)) (c.add_values.ensures i (omega arith)),
    )
