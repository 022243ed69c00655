use Rattle.std.proofs.lemmas.Slice.Eq.{slice_eq-Decides}
use Rattle.outer.specs.Followed.{repeats-same}
use Rattle.outer.proofs.trailing.Trailing.repeats.Goals as goal
use Rattle.std.specs.Cmp.{booleans_Decides}

pub returns : goal.returns
returns c =
    repeats-same c.args.self c.args.a c.args.word.now c.lay.new.word c.eq.result
    (slice_eq-Decides booleans_Decides c.args.word.now c.lay.new.word c.eq.result c.eq.ensures) c.lay.ensures
