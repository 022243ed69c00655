-- From 2 ^ 5 to 2 ^ 10. Assumes nothing.
use Rattle.std.proofs.Common.{◌≡◌, ◌*◌, ◌%◌, ◌^◌, arith, pow_mono}
use Rattle.std.proofs.lemmas.Nat.{one_shl}
use Rattle.plan.proofs.block_size.BlockSize.length.Goals as goal

pub returns-clause-limits : goal.returns-clause-limits
returns-clause-limits c =
    let size = c.args.self in
    let whole : 1 * 2 ^ size.n % 2 ^ 64 ≡ 2 ^ size.n = one_shl size.n 64 (omega arith) in
    (omega (arith, whole, pow_mono size.least), omega (arith, whole, pow_mono size.most))
