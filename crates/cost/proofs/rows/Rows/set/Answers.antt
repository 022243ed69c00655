use Rattle.std.proofs.Common.{◌≡◌, length, arith, rules}
use Rattle.cost.proofs.Paths.{path-set, path-kept}
use Rattle.cost.proofs.rows.Rows.set.Goals as goal

pub returns-then-row-lt-COUNT : goal.returns-then-row-lt-COUNT
returns-then-row-lt-COUNT c =
    let whole : length c.args.self.now.rows ≡ 129 = search rules in
    path-set c.args.self.now.rows c.args.row c.args.k c.args.value _ c.set.new.self c.if-row-lt-COUNT.true (omega arith) c.set.ensures

pub returns-else-row-lt-COUNT : goal.returns-else-row-lt-COUNT
returns-else-row-lt-COUNT c =
    path-kept c.args.self.now.rows c.args.row _ c.if-row-lt-COUNT.false
