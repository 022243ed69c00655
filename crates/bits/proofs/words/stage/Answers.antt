use Rattle.std.proofs.Common.{◌≡◌, suc, ◌%◌, ◌^◌, length, ap, ◌∙◌, arith}
use Rattle.bits.proofs.Packed.{added_more}
use Rattle.bits.proofs.words.stage.Goals as goal

pub loop-i-preserved : goal.loop-i-preserved
loop-i-preserved c =
    let pairs : length c.loop-i.words % 2 ^ suc c.args.s ≡ 0 = ap (λ len. len % 2 ^ suc c.args.s) c.loop-i.auto.words ∙ c.requires.pairs in
    added_more c.args.s c.args.words.now c.loop-i.words c.loop-i.i c.added.result pairs (omega arith) c.added.ensures c.loop-i.invariant
