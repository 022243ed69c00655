use Rattle.std.proofs.Common.{◌≡◌, ◌==◌, rules, ◌∙◌}
use Rattle.std.specs.List.{list_any}
use Rattle.store.specs.declared.candidate.Candidate.{Candidate}
use Rattle.store.specs.Slots.{used}
use Rattle.store.proofs.Rows.{list_any-row}
use Rattle.store.proofs.slots.Slots.holds_row.Goals as goal

pub returns : goal.returns
returns c =
    let found : c.row_among.result ≡ list_any (λ (x : Candidate). x.row == c.args.row) (used c.args.self.now) = search rules in
    found ∙ list_any-row c.args.row (used c.args.self.now)
