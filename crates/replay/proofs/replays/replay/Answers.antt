use Rattle.std.proofs.Common.{◌≡◌, ◌+◌, ◌<◌, ◌≤◌, length, vec_items, sym, refl, ap, ◌∙◌, subst, arith}
use Rattle.search.specs.Search.{called}
use Rattle.search.specs.Stores.{ruled}
use Rattle.decoder.specs.States.{model_of, unloaded}
use Rattle.replay.specs.Plays.{call_of, heard, output_left, scratch_left}
use Rattle.replay.specs.Replays.{calls_of}
use Rattle.replay.proofs.Exactness.{metrics-exact}
use Rattle.replay.proofs.Replayed.{Ends, remains-all, remains-less, remains-none, next-call, no_call, same-call, keeps-promise}
use Rattle.replay.proofs.replays.replay.Goals as goal

pub returns-in-Err : goal.returns-in-Err
returns-in-Err g c =
    let e = c.new-decoder.ensures in
    record {
      answers = tt;
      promise = keeps-promise g.C.Judge c.args.check c.args.values.now (length c.args.scratch.now) (length c.args.output.now) (g.met.C.Judge.accepted_hopeful c.args.check) _ c.args.calls.now;
      exact = metrics-exact g.C.Judge c.args.check c.args.values.now (length c.args.scratch.now) (length c.args.output.now) (g.met.C.Judge.accepted_hopeful c.args.check) _ c.args.calls.now;
      decoder = (e.model, e.check);
      scratch = refl;
      output = refl;
    }

pub loop-call-init : goal.loop-call-init
loop-call-init g c =
    let made = c.in-Ok.ensures in
    (remains-all _ _ (vec_items c.in-Ok.answers) c.args.scratch.now c.args.output.now made.items, refl, made.len, made.capacity)

pub push_reserved-requires : goal.push_reserved-requires
push_reserved-requires g c =
    let (remains, check, len, cap) = c.loop-call.invariant in
    let taken : c.loop-call.call-index < length c.args.calls.now = c.loop-call-test.true in
    omega arith

pub loop-call-preserved : goal.loop-call-preserved
loop-call-preserved g c =
    let (remains, check, len, cap) = c.loop-call.invariant in
    let taken : c.loop-call.call-index < length c.args.calls.now = c.loop-call-test.true in
    let i = c.loop-call.call-index in
    let item = c.call-item.result in
    let calls = c.args.calls.now in
    let scratch = c.args.scratch.now in
    let output = c.args.output.now in
    let here = model_of g.S.Store g.C.Judge c.loop-call.decoder.state in
    let f = call_of g.C.Judge c.new-decoder.result.state.check c.args.values.now (length scratch) (length output) in
    let same : call_of g.C.Judge c.loop-call.decoder.state.check c.args.values.now (length c.loop-call.scratch) (length c.loop-call.output) item ≡ f item =
    same-call g.C.Judge c.loop-call.decoder.state.check c.new-decoder.result.state.check c.args.values.now (length c.loop-call.scratch) (length scratch) (length c.loop-call.output) (length output) item check c.loop-call.auto.scratch c.loop-call.auto.output in
    let e = c.play-answer.ensures in
    let pushed = c.push_reserved.ensures in (
      remains-less (model_of g.S.Store g.C.Judge c.new-decoder.result.state) here (model_of g.S.Store g.C.Judge c.play-answer.new.decoder.state) _ _ _ (f item) (vec_items c.loop-call.answers) (vec_items c.push_reserved.new.self) c.play-answer.result scratch c.loop-call.scratch c.play-answer.new.scratch output c.loop-call.output c.play-answer.new.output remains (next-call f calls i item taken c.call-item.is)
          (e.model ∙ ap (λ q. (called ruled here q).0) same)
          (e.answer ∙ ap (λ q. heard (called ruled here q).1) same)
          pushed.items
          (e.scratch ∙ ap (λ q. scratch_left here (called ruled here q).1 c.loop-call.scratch) same)
          (e.output ∙ ap (λ q. output_left here (called ruled here q).1 c.loop-call.output) same),
      e.check ∙ check,
      pushed.len ∙ ap (λ n. n + 1) len,
      subst (λ n. length calls ≤ n) (sym pushed.capacity) cap,
    )

pub returns : goal.returns
returns g c =
    let (remains, check, len, cap) = c.loop-call.invariant in
    let left : length c.args.calls.now ≤ c.loop-call.call-index = c.loop-call-test.false in
    let new = c.new-decoder.ensures in
    let calls = c.args.calls.now in
    let scratch = c.args.scratch.now in
    let output = c.args.output.now in
    let here = model_of g.S.Store g.C.Judge c.loop-call.decoder.state in
    let answers = vec_items c.loop-call.answers in
    let f = call_of g.C.Judge c.new-decoder.result.state.check c.args.values.now (length scratch) (length output) in
    let all = λ (k : g.row.C.Denot). calls_of g.C.Judge k c.args.values.now (length scratch) (length output) calls in
    let ends : Ends (unloaded g.S.Store c.args.store) here (all c.args.check) answers scratch c.loop-call.scratch output c.loop-call.output =
    subst (λ k. Ends (unloaded g.S.Store c.args.store) here (all k) answers scratch c.loop-call.scratch output c.loop-call.output) new.check
    (subst (λ s. Ends s here (all c.new-decoder.result.state.check) answers scratch c.loop-call.scratch output c.loop-call.output) new.model
    (remains-none (model_of g.S.Store g.C.Judge c.new-decoder.result.state) here _ _ answers scratch c.loop-call.scratch output c.loop-call.output remains (no_call f calls c.loop-call.call-index left))) in
    record {
      answers = ends.answers_of;
      promise = keeps-promise g.C.Judge c.args.check c.args.values.now (length scratch) (length output) (g.met.C.Judge.accepted_hopeful c.args.check) _ calls;
      exact = metrics-exact g.C.Judge c.args.check c.args.values.now (length scratch) (length output) (g.met.C.Judge.accepted_hopeful c.args.check) _ calls;
      decoder = (ends.decoder, check ∙ new.check);
      scratch = ends.scratch-of;
      output = ends.output-of;
    }
