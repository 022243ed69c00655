use Rattle.std.proofs.Common.{◌≡◌, ◌-◌, length, take, sym, refl, ap, ◌∙◌}
use Rattle.search.specs.Calls as search
use Rattle.search.specs.Search.{called}
use Rattle.search.specs.Stores.{ruled}
use Rattle.decoder.specs.States.{model_of}
use Rattle.replay.specs.Plays.{call_of, heard, output_left, scratch_left}
use Rattle.replay.proofs.Parts.{front_length}
use Rattle.replay.proofs.Played.{scratch-whole, output-whole, word-spares, advance-spares, kept_same, kept_whole}
use Rattle.replay.proofs.plays.play.Goals as goal

pub returns-in-Advance : goal.returns-in-Advance
returns-in-Advance g c =
    let d = model_of g.S.Store g.C.Judge c.args.decoder.now.state in
    let scratch = c.args.scratch.now in
    let output = c.args.output.now in
    let room = c.min-room.result in
    let call = call_of g.C.Judge c.args.decoder.now.state.check c.args.values.now (length scratch) (length output) in
    let same : search.Advance c.in-Advance.budget (length (take (room - 0) scratch)) ≡ call c.args.call =
    ap (search.Advance c.in-Advance.budget) (front_length c.in-Advance.words room scratch c.min-room.ensures) ∙ sym (ap call c.in-Advance.is) in
    let e = c.play_advance.ensures in
    record {
      model = e.model ∙ ap (λ q. (called ruled d q).0) same;
      answer = e.answer ∙ ap (λ q. heard (called ruled d q).1) same;
      check = e.check;
      scratch =
          scratch-whole d (called ruled d (search.Advance c.in-Advance.budget (length (take (room - 0) scratch)))).1 (room - 0) scratch c.play_advance.new.scratch e.scratch c.play_advance.auto.scratch
          ∙ ap (λ q. scratch_left d (called ruled d q).1 scratch) same;
      output = advance-spares d c.in-Advance.budget (length (take (room - 0) scratch)) output ∙ ap (λ q. output_left d (called ruled d q).1 output) same;
      refused = (e.refused.0, (kept_whole c.play_advance.result (room - 0) scratch c.play_advance.new.scratch e.refused.1, kept_same c.play_advance.result output));
    }

pub returns-in-Word : goal.returns-in-Word
returns-in-Word g c =
    let d = model_of g.S.Store g.C.Judge c.args.decoder.now.state in
    let scratch = c.args.scratch.now in
    let output = c.args.output.now in
    let room = c.min-room-in-Word.result in
    let call = call_of g.C.Judge c.args.decoder.now.state.check c.args.values.now (length scratch) (length output) in
    let same : search.Word (length (take (room - 0) output)) ≡ call c.args.call =
    ap search.Word (front_length c.in-Word.bytes room output c.min-room-in-Word.ensures) ∙ sym (ap call c.in-Word.is) in
    let spares = word-spares d (length (take (room - 0) output)) scratch in
    let e = c.play_word.ensures in
    record {
      model = sym spares.0 ∙ ap (λ q. (called ruled d q).0) same;
      answer = e.answer ∙ ap (λ q. heard (called ruled d q).1) same;
      check = refl;
      scratch = spares.1 ∙ ap (λ q. scratch_left d (called ruled d q).1 scratch) same;
      output =
          output-whole d (called ruled d (search.Word (length (take (room - 0) output)))).1 (room - 0) output c.play_word.new.output e.output c.play_word.auto.output
          ∙ ap (λ q. output_left d (called ruled d q).1 output) same;
      refused = (kept_same c.play_word.result c.args.decoder.now, (kept_same c.play_word.result scratch, kept_whole c.play_word.result (room - 0) output c.play_word.new.output e.refused));
    }
