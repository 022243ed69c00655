use Rattle.std.proofs.Common.{◌≡◌, true, false, length, sym, ◌∙◌, rules}
use Rattle.crc.specs.Lengths.{fitting}
use Rattle.outer.specs.Trailing.{width}
use Rattle.outer.specs.Followed.{unfit-unsound, sound-repeats}
use Rattle.outer.proofs.trailing.TrailingJudge.accepts.Goals as goal

pub returns-then-is_err : goal.returns-then-is_err
returns-then-is_err c =
    let unfit : fitting 512 (width c.args.self.now) c.args.a (length c.args.word.now) ≡ false = search rules in
    sym (unfit-unsound c.args.self.now c.args.a c.args.word.now unfit)

pub returns : goal.returns
returns c =
    let fit : fitting 512 (width c.args.self.now) c.args.a (length c.args.word.now) ≡ true = search rules in
    c.repeats.ensures ∙ sound-repeats c.args.self.now c.args.a c.args.word.now fit
