use Rattle.std.proofs.Common.{◌≡◌, Some, true, false, ◌/◌, ◌<◌, length, slice_set, sym, ap, ◌∙◌, rules, arith}
use Rattle.std.proofs.lemmas.Grind.{common_steps}
use Rattle.store.specs.Lesser.{lesser_of}
use Rattle.store.specs.Meaning.{lowered, metric_of}
use Rattle.store.specs.Order.{before}
use Rattle.store.specs.Slots.{used, room, lowest}
use Rattle.store.proofs.Candidates.{strict}
use Rattle.store.proofs.Inserts.{room-stays, room-sheds}
use Rattle.heap.specs.Shape.{at, Last}
use Rattle.heap.specs.Sorting.{sorted}
use Rattle.heap.specs.Sorts.{length-sorted, sorted-push}
use Rattle.heap.proofs.Kept.{newcomer-shed, last-shed}
use Rattle.heap.proofs.binary.calls.HeapStore.put.Goals as goal

pub returns-then-not-is_full-clause-kept : goal.returns-then-not-is_full-clause-kept
returns-then-not-is_full-clause-kept c =
    let xs = used c.args.self.now.slots in
    let fits : length xs < room c.args.self.now.slots = grind (arith, common_steps) in
    let risen : sorted before (used c.rearrange.new.self) ≡ sorted before (used c.push.new.self) = search rules in
    risen ∙ ap (sorted before) c.push.ensures.used ∙ sorted-push before strict xs c.args.c
    ∙ sym (room-stays before (sorted before xs) c.args.c (room c.args.self.now.slots) (omega (arith, length-sorted before xs, fits)))

pub returns-then-not-is_full-clause-floor : goal.returns-then-not-is_full-clause-floor
unfolding lowered
returns-then-not-is_full-clause-floor c =
    let xs = used c.args.self.now.slots in
    let fits : length xs < room c.args.self.now.slots = grind (arith, common_steps) in
    c.rearrange.ensures.lowest ∙ c.push.ensures.lowest
    ∙ sym (ap (lowered metric_of (lowest c.args.self.now.slots)) (room-sheds before (sorted before xs) c.args.c (room c.args.self.now.slots) (omega (arith, length-sorted before xs, fits))))

pub returns-then-not-before-clause-kept : goal.returns-then-not-before-clause-kept
returns-then-not-before-clause-kept c =
    let xs = used c.args.self.now.slots in
    let p = c.last_from-place.result in
    let found : Last xs (length xs / 2) p = search rules in
    let later : before c.args.c (at xs p) ≡ false = search rules in
    let shed = newcomer-shed xs c.args.self.now.heaped p found c.args.c _ (c.is_full.ensures.0 c.if-not-is_full.false) later in
    search (rules, shed)

pub returns-then-not-before-clause-floor : goal.returns-then-not-before-clause-floor
unfolding lowered
returns-then-not-before-clause-floor c =
    let xs = used c.args.self.now.slots in
    let p = c.last_from-place.result in
    let found : Last xs (length xs / 2) p = search rules in
    let later : before c.args.c (at xs p) ≡ false = search rules in
    let shed = newcomer-shed xs c.args.self.now.heaped p found c.args.c _ (c.is_full.ensures.0 c.if-not-is_full.false) later in
    search (rules, ap (lowered metric_of (lowest c.args.self.now.slots)) shed.1)

pub returns-clause-kept : goal.returns-clause-kept
returns-clause-kept c =
    let xs = used c.args.self.now.slots in
    let p = c.last_from-place.result in
    let found : Last xs (length xs / 2) p = search rules in
    let earlier : before c.args.c (at xs p) ≡ true = search rules in
    let shed = last-shed xs c.args.self.now.heaped p found c.args.c _ (c.is_full.ensures.0 c.if-not-is_full.false) earlier in
    let risen : sorted before (used c.rearrange-2.new.self) ≡ sorted before (slice_set xs p c.args.c) = search rules in
    let kept : used c.shed-2.new.self ≡ used c.rearrange-2.new.self = search rules in
    ap (sorted before) kept ∙ risen ∙ shed.0

pub returns-clause-floor : goal.returns-clause-floor
unfolding lowered
returns-clause-floor c =
    let xs = used c.args.self.now.slots in
    let p = c.last_from-place.result in
    let found : Last xs (length xs / 2) p = search rules in
    let earlier : before c.args.c (at xs p) ≡ true = search rules in
    let shed = last-shed xs c.args.self.now.heaped p found c.args.c _ (c.is_full.ensures.0 c.if-not-is_full.false) earlier in
    let fallen : lowest c.shed-2.new.self ≡ lesser_of (lowest c.args.self.now.slots) (Some (at xs p).metric) = search rules in
    fallen ∙ sym (ap (lowered metric_of (lowest c.args.self.now.slots)) shed.1)
