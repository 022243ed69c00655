use Rattle.std.proofs.Common.{length, arith}
use Rattle.std.proofs.lemmas.Nat.{one_shl}
use Rattle.bits.proofs.Butterfly.{partner-within}
use Rattle.bits.proofs.words.added.Goals as goal

pub bounds-words-i-then-i-s-eq0 : goal.bounds-words-i-then-i-s-eq0
bounds-words-i-then-i-s-eq0 c =
    omega (
      arith,
      one_shl c.args.s 64 c.requires.width,
      partner-within c.args.s (length c.args.words.now) c.args.i c.requires.pairs c.requires.place c.if-i-s-eq0.true,
    )
