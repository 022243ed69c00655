use Rattle.std.proofs.Common.{◌<◌, length, take, sym, refl, ap, ◌∙◌, ap₂, arith, rules}
use Rattle.std.proofs.lemmas.List.{length-set}
use Rattle.bits.specs.Row.{row_bit}
use Rattle.model.specs.Blocks.{kinds_of}
use Rattle.decoder.proofs.Walks.{gather-more, gather-on}
use Rattle.model.specs.Reading.{first_bits}
use Rattle.decoder.proofs.path.gather.Goals as goal
use Rattle.decoder.proofs.path.gather.Goals.{then-is_information, else-is_information}

pub loop-i-init : goal.loop-i-init
unfolding first_bits
loop-i-init c = (refl, omega arith, search rules)

pub loop-i-preserved : goal.loop-i-preserved
loop-i-preserved c =
    let (front, few, size) = c.loop-i.invariant in
    let kinds = kinds_of c.args.plan.now in
    let path = row_bit c.args.path.now in
    let lt : c.loop-i.count < length c.loop-i.room = let h = c.loop-i-test.true in let k = c.requires.size in omega arith in
    elim c.if-is_information.branch [
      | then-is_information w ↦ (
        ap₂ take w.count-is w.room-is
            ∙ gather-more kinds path c.loop-i.i c.loop-i.count c.loop-i.room w.get.result lt (sym c.is_information.ensures ∙ w.if-is_information.true) w.get.ensures.result front,
        let k = w.count-is in omega arith,
        ap length w.room-is ∙ length-set c.loop-i.room c.loop-i.count w.get.result ∙ size,
      )
      | else-is_information w ↦ (
        ap₂ take w.count-is w.room-is ∙ gather-on kinds path c.loop-i.i _ (sym c.is_information.ensures ∙ w.if-is_information.false) front,
        let k = w.count-is in omega arith,
        ap length w.room-is ∙ size,
      )
    ]
