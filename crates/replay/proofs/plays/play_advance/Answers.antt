use Rattle.std.proofs.Common.{length, refl}
use Rattle.plan.specs.Plans.{block_length}
use Rattle.decoder.specs.Blocks.{plan_in}
use Rattle.decoder.specs.States.{model_of, contents_of, loaded_of}
use Rattle.replay.proofs.Played.{advance-heard, granted-size, scratch-wiped}
use Rattle.replay.proofs.plays.play_advance.Goals as goal

pub returns : goal.returns
returns g c =
    let d = c.args.decoder.now.state in
    let size = block_length (plan_in d.block) in
    let room = c.args.scratch.now in
    let e = c.in_ok-met.ensures in
    record {
      model = c.advance.ensures.model;
      answer = advance-heard _ c.in_ok-met.met c.in_ok-met.report _ e.answer;
      check = c.advance.ensures.check;
      scratch = scratch-wiped (model_of g.S.Store g.C.Judge d) _ _ _ size room c.advance.new.scratch e.answer (granted-size d.phase (contents_of g.S.Store d) (loaded_of g.S.Store g.C.Judge d) size c.args.budget (length room) e.refusal refl) e.scratch;
      refused = (tt, tt);
    }
