use Rattle.std.proofs.Common.{◌-◌, eqb, ap, ◌∙◌, ap₂}
use Rattle.std.proofs.lemmas.Nat.{one_shl}
use lib.Bits.{bit_and, and_mask}
use Rattle.bits.proofs.Agreement.{low-agree}
use Rattle.bits.proofs.word.same_low.Goals as goal

pub returns : goal.returns
returns c =
    ap (λ m. eqb (bit_and c.args.x (m - 1)) (bit_and c.args.y (m - 1))) (one_shl c.args.n 64 c.requires.width)
    ∙ ap₂ eqb (and_mask c.args.x c.args.n) (and_mask c.args.y c.args.n)
    ∙ low-agree c.args.x c.args.y c.args.n
