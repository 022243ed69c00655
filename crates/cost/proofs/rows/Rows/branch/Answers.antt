use Rattle.std.proofs.Common.{◌≡◌, length, arith, rules}
use Rattle.cost.proofs.Paths.{path-branch, path-kept}
use Rattle.cost.proofs.rows.Rows.branch.Goals as goal

pub returns-then-child-lt-COUNT : goal.returns-then-child-lt-COUNT
returns-then-child-lt-COUNT c =
    let whole : length c.args.self.now.rows ≡ 129 = search rules in
    path-branch c.args.self.now.rows c.args.child c.args.k c.args.value _ c.path.result _ c.set.new.self
    c.if-child-lt-COUNT.true (omega arith) c.path.ensures c.set.ensures

pub returns-else-child-lt-COUNT : goal.returns-else-child-lt-COUNT
returns-else-child-lt-COUNT c =
    path-kept c.args.self.now.rows c.args.child _ c.if-child-lt-COUNT.false
