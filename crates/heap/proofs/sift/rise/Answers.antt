use Rattle.std.proofs.Common.{◌<◌, length, sym, ◌∙◌, arith}
use Rattle.heap.specs.Shape.{parent}
use Rattle.heap.proofs.Sifts.{rise-more, rise-stop, rise-top, swapped-places, swapped-sorted}
use Rattle.heap.proofs.sift.rise.Goals as goal

pub returns-then-not-before : goal.returns-then-not-before
returns-then-not-before c =
    record {
      same = c.loop-at.invariant.3;
      heaped = rise-stop c.loop-at.slots _ c.loop-at.at c.loop-at.invariant.2 (sym c.if-not-before.ensures.result);
    }

pub loop-at-preserved : goal.loop-at-preserved
loop-at-preserved c =
    let xs = c.loop-at.slots in
    let ys = c.swap.new.self in
    let i = c.loop-at.at in
    let places = c.swap.ensures.by_index in
    let low : i < length xs = omega (arith, c.loop-at.invariant.0, c.loop-at.invariant.1) in
    let high : parent i < length xs = omega (arith, low) in (
      c.swap.ensures.len ∙ c.loop-at.invariant.0,
      omega (arith, c.loop-at.invariant.1),
      rise-more xs ys _ i c.loop-at.invariant.2 c.loop-at-test.true c.loop-at.invariant.1 (sym c.if-not-before.ensures.result) (swapped-places xs ys i (parent i) places.0 places.1 places.2),
      swapped-sorted xs ys i (parent i) low high places.3 ∙ c.loop-at.invariant.3,
    )

pub returns : goal.returns
returns c =
    record {
      same = c.loop-at.invariant.3;
      heaped = rise-top c.loop-at.slots _ c.loop-at.at c.loop-at.invariant.2 (omega (arith, c.loop-at-test.false));
    }
