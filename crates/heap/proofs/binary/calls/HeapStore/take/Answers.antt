use Rattle.std.proofs.Common.{◌≡◌, suc, [], length, sym, ap, ◌∙◌, rules, slice_set}
use Rattle.store.specs.Meaning.{takes}
use Rattle.store.specs.Order.{before}
use Rattle.store.specs.Slots.{used}
use Rattle.store.proofs.Accounts.{take-sheds-nothing}
use Rattle.heap.specs.Shape.{at}
use Rattle.heap.specs.Sorting.{sorted}
use Rattle.heap.proofs.Kept.{taken}
use Rattle.heap.proofs.binary.calls.HeapStore.take.Goals as goal

pub returns-in_err-rest-clause-result : goal.returns-in_err-rest-clause-result
unfolding sorted
returns-in_err-rest-clause-result c =
    let none : used c.args.self.now.slots ≡ [] = search rules in
    c.from_residual.ensures ∙ sym (ap (λ xs. (takes (sorted before xs)).answer) none)

pub returns-in_err-rest-clause-kept : goal.returns-in_err-rest-clause-kept
unfolding sorted
returns-in_err-rest-clause-kept c =
    let none : used c.args.self.now.slots ≡ [] = search rules in
    ap (sorted before) none ∙ sym (ap (λ xs. (takes (sorted before xs)).stays) none)

pub returns-in_err-rest-clause-floor : goal.returns-in_err-rest-clause-floor
returns-in_err-rest-clause-floor c = take-sheds-nothing _ _ _

pub returns-clause-result : goal.returns-clause-result
returns-clause-result c =
    let xs = used c.args.self.now.slots in
    let m = c.in_ok-rest.rest in
    let long : length xs ≡ suc m = search rules in
    let swapped : used c.rearrange.new.self ≡ slice_set (slice_set xs 0 (at xs m)) m (at xs 0) = search rules in
    let least : c.pop-first.result ≡ (takes (sorted before xs)).answer =
    (taken xs (used c.pop-first.new.self) m c.pop-first.result long c.args.self.now.heaped swapped c.pop-first.ensures.cases).0 in
    search (rules, least)

pub returns-clause-kept : goal.returns-clause-kept
returns-clause-kept c =
    let xs = used c.args.self.now.slots in
    let m = c.in_ok-rest.rest in
    let long : length xs ≡ suc m = search rules in
    let swapped : used c.rearrange.new.self ≡ slice_set (slice_set xs 0 (at xs m)) m (at xs 0) = search rules in
    let sunk : sorted before (used c.rearrange-2.new.self) ≡ sorted before (used c.pop-first.new.self) = search rules in
    sunk ∙ (taken xs (used c.pop-first.new.self) m c.pop-first.result long c.args.self.now.heaped swapped c.pop-first.ensures.cases).1

pub returns-clause-floor : goal.returns-clause-floor
returns-clause-floor c = c.rearrange-2.ensures.lowest ∙ c.pop-first.ensures.lowest ∙ c.rearrange.ensures.lowest ∙ take-sheds-nothing _ _ _
