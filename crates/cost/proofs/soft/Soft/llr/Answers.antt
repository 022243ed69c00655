use Rattle.std.proofs.Common.{◌≤◌, length, pos, sym, arith}
use Rattle.std.proofs.lemmas.List.{get_or_past}
use Rattle.cost.proofs.soft.Soft.llr.Goals as goal

pub returns-else-k-lt1024 : goal.returns-else-k-lt1024
returns-else-k-lt1024 c =
    let past : length c.args.self.now.values ≤ c.args.k = omega (arith, c.args.self.now.whole, c.if-k-lt1024.false) in
    sym (get_or_past c.args.self.now.values c.args.k (pos 0) past)
