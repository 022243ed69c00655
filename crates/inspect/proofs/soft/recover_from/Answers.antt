-- The values are those of the body. Assumes nothing.
use Rattle.std.proofs.Common.{◌≡◌, length, rules}
use Rattle.plan.specs.Plans.{sent_bits}
use Rattle.inspect.proofs.Places.{softens}
use Rattle.inspect.proofs.soft.recover_from.Goals as goal

pub returns : goal.returns
returns c =
    let sent : length c.unpack.new.values ≡ sent_bits c.args.plan.now = search rules in
    softens c.args.plan.now c.args.body.now c.unpack.new.values c.args.llrs.now c.recover.new.llrs c.recover.result
    sent c.requires.block (λ k l. c.unpack.ensures k (search rules)) c.recover.ensures
