-- What is written of the sent bits is the file of the request. Assumes nothing.
use Rattle.std.proofs.Common.{vec_items, ap, ◌∙◌}
use Rattle.sender.specs.Images.{image_of}
use Rattle.sender.proofs.Filed.{file-is}
use Rattle.sender.proofs.file.file_of.Goals as goal

pub returns : goal.returns
returns c =
    let steps = c.in_ok-sending.ensures in
    file-is c.in_ok-sending.sending.plan c.args.request.now (vec_items c.in_ok-sending.sending.sent)
    (vec_items c.in_ok-image.field-0) steps.plan steps.sent
    (c.in_ok-image.ensures ∙ ap (image_of c.args.request.now) c.as_slice.ensures.value)
