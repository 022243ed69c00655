use Rattle.decoder.specs.Answers.{payload_in}
use Rattle.decoder.specs.States.{model_of}
use Rattle.replay.proofs.Played.{word-heard, word-written}
use Rattle.replay.proofs.plays.play_word.Goals as goal

pub returns : goal.returns
returns g c =
    let d = model_of g.S.Store g.C.Judge c.args.decoder.now.state in
    let after = c.word.new.output in
    let e = c.in_ok-word.ensures in
    record {
      answer = word-heard (payload_in d) _ c.new.result after e.answer c.new.ensures e.output;
      output = word-written d (payload_in d) _ c.args.output.now after e.answer e.output c.word.auto.output;
      refused = tt;
    }
