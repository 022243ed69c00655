use Rattle.std.proofs.Common.{◌^◌, ◌≤◌, arith, pow_mono}
use Rattle.std.proofs.lemmas.Nat.{one_shl}
use Rattle.cost.proofs.soft.Soft.fill_top.Goals as goal

pub shared_ref_as_front-copy_from_slice : goal.shared_ref_as_front-copy_from_slice
shared_ref_as_front-copy_from_slice c =
    let size = c.args.self.now.size in
    let most : 2 ^ c.args.self.now.n ≤ 2 ^ 10 = pow_mono size in
    omega (arith, one_shl c.args.self.now.n 64 (omega arith))
