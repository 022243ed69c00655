use Rattle.std.proofs.Common.{◌≡◌, length, ap, ◌∙◌, arith, rules}
use Rattle.std.specs.Option.{unwrap_or}
use Rattle.bits.specs.Row.{row_bit}
use Rattle.cost.proofs.Paths.{path-or}
use Rattle.cost.proofs.rows.Rows.path.Goals as goal

pub returns : goal.returns
returns c =
    let whole : length c.args.self.now.rows ≡ 129 = search rules in
    ap row_bit
    (c.unwrap_or.ensures
    ∙ ap (λ found. unwrap_or found c.zero.result) c.copied.ensures
    ∙ c.get.ensures.lookup.4 (omega arith) c.zero.result)
    ∙ path-or c.args.self.now.rows c.args.row c.zero.result whole c.zero.ensures
