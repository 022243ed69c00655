use Rattle.std.proofs.Common.{◌<◌, length, sym, ◌∙◌, subst, arith}
use Rattle.heap.specs.Shape.{Child}
use Rattle.heap.proofs.Sifts.{sink-more, sink-stop, sink-bottom, swapped-places, swapped-sorted}
use Rattle.heap.proofs.sift.sink.Goals as goal

pub returns-then-not-before : goal.returns-then-not-before
returns-then-not-before c =
    let xs = c.loop-at.slots in
    let child = subst (λ n. Child xs n c.loop-at.at c.first_child-child.result) c.loop-at.invariant.0 c.first_child-child.ensures in
    record {
      same = c.loop-at.invariant.2;
      heaped = sink-stop xs xs _ c.loop-at.at c.first_child-child.result c.loop-at.invariant.1 child (sym c.if-not-before.ensures.result);
    }

pub loop-at-smaller : goal.loop-at-smaller
loop-at-smaller c =
    let child = c.first_child-child.ensures in
    omega (arith, child.above, child.within, child.below, c.loop-at.invariant.0)

pub loop-at-preserved : goal.loop-at-preserved
loop-at-preserved c =
    let xs = c.loop-at.slots in
    let ys = c.swap.new.self in
    let i = c.loop-at.at in
    let j = c.first_child-child.result in
    let child = subst (λ n. Child xs n i j) c.loop-at.invariant.0 c.first_child-child.ensures in
    let places = c.swap.ensures.by_index in
    let low : j < length xs = c.first_child-child.ensures.within in
    let high : i < length xs = omega (arith, c.first_child-child.ensures.below, c.first_child-child.ensures.above, low) in (
      c.swap.ensures.len ∙ c.loop-at.invariant.0,
      sink-more xs ys _ i j c.loop-at.invariant.1 child (sym c.if-not-before.ensures.result) (swapped-places xs ys i j places.0 places.1 places.2),
      swapped-sorted xs ys i j high low places.3 ∙ c.loop-at.invariant.2,
    )

pub returns : goal.returns
returns c =
    record {
      same = c.loop-at.invariant.2;
      heaped = sink-bottom c.loop-at.slots _ c.loop-at.at c.loop-at.invariant.1 (omega (arith, c.loop-at-test.false, c.loop-at.invariant.0));
    }
