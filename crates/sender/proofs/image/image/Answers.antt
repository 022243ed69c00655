-- Three fields, one after the other; the third is short enough for its length. Assumes nothing.
use Rattle.std.proofs.Common.{◌≡◌, ◌*◌, length, vec_items, ap, ◌∙◌, arith}
use Rattle.sender.proofs.Filed.{image-is}
use Rattle.sender.proofs.Received.{value-bytes-length}
use Rattle.sender.proofs.image.image.Goals as goal

pub write_field-requires-3 : goal.write_field-requires-3
write_field-requires-3 c =
    let size : length c.as_slice.result.now ≡ 2 * length c.args.bits.now =
    ap length (c.as_slice.ensures.value ∙ c.in_ok-values.ensures) ∙ value-bytes-length _ _ _ in
    let few = c.requires.few in
    record { short = omega arith }

pub returns : goal.returns
returns c =
    image-is c.args.request.now c.args.bits.now c.plan_body.result c.search_body.result c.as_slice.result.now
    (vec_items c.new-file.result) (vec_items c.write_field.new.file) (vec_items c.write_field-2.new.file) (vec_items c.write_field-3.new.file)
    c.plan_body.ensures c.search_body.ensures
    (c.as_slice.ensures.value ∙ c.in_ok-values.ensures) c.new-file.ensures.items
    c.in_ok-write_field.ensures c.in_ok-write_field-2.ensures c.in_ok-write_field-3.ensures
