use Rattle.std.proofs.Common.{◌≡◌, List, [], ◌++◌, take, drop, ap, ◌∙◌, rules}
use Rattle.store.specs.declared.candidate.Candidate.{Candidate}
use Rattle.store.specs.Order.{before}
use Rattle.store.specs.Ordered.{in_order}
use Rattle.store.specs.Slots.{used}
use Rattle.store.proofs.Accounts.{take-sheds-nothing}
use Rattle.store.proofs.Inserts.{in-order-drop}
use Rattle.store.proofs.Tables.{rotated-popped}
use Rattle.store.proofs.table.calls.TableStore.take.Goals as goal

pub returns-then-is_empty-clause-floor : goal.returns-then-is_empty-clause-floor
returns-then-is_empty-clause-floor c = take-sheds-nothing _ _ _

pub invariant_of-self : goal.invariant_of-self
invariant_of-self c =
    let xs : List Candidate = used c.args.self.now.slots in
    let turned : used c.rearrange.new.self ≡ drop 1 xs ++ take 1 xs = search rules in
    let some : xs ≡ [] → ⊥ = search rules in
    record { ordered = ap (in_order before) (rotated-popped xs (used c.pop.new.self) c.pop.result some turned c.pop.ensures.cases) ∙ in-order-drop before 1 xs c.args.self.now.ordered }

pub returns-clause-floor : goal.returns-clause-floor
returns-clause-floor c = c.pop.ensures.lowest ∙ c.rearrange.ensures.lowest ∙ take-sheds-nothing _ _ _
