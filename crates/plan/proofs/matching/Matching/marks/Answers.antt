-- A mark for every sent bit. Assumes nothing.
use Rattle.std.proofs.Common.{◌+◌, ◌<◌, true, set, sym, subst, arith, pow_mono}
use Rattle.plan.specs.Order.{sent_place}
use Rattle.plan.proofs.Sent.{Marked, marked-none, marked_more}
use Rattle.plan.proofs.matching.Matching.marks.Goals as goal

pub bounds-marks-place : goal.bounds-marks-place
bounds-marks-place c = omega (arith, c.place.ensures.inside, pow_mono c.args.self.now.size.most)

pub loop-k-init : goal.loop-k-init
loop-k-init c = let m = c.args.self.now in marked-none (sent_place m.mode m.size.n m.sent)

pub loop-k-preserved : goal.loop-k-preserved
loop-k-preserved c =
    let m = c.args.self.now in
    let places = sent_place m.mode m.size.n m.sent in
    subst (λ x. Marked places (c.loop-k.k + 1) (set c.loop-k.marks x true)) (sym c.place.ensures.result)
    (marked_more places c.loop-k.k c.loop-k.marks
    (subst (λ x. x < 1024) c.place.ensures.result (omega (arith, c.place.ensures.inside, pow_mono m.size.most)))
    c.loop-k.invariant)
