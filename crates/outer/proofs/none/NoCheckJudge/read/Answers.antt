use Rattle.std.proofs.Common.{◌≡◌, ◌+◌, length, take, sym, arith, rules}
use Rattle.std.proofs.lemmas.List.{take_all}
use Rattle.crc.proofs.Fitting.{fitting-tells}
use Rattle.outer.proofs.none.NoCheckJudge.read.Goals as goal

pub returns-clause-ok : goal.returns-clause-ok
returns-clause-ok c =
    let fit : length c.args.word.now ≡ length c.args.payload.now + 0 =
    (fitting-tells 512 0 (length c.args.payload.now) (length c.args.word.now) (sym c.in_ok-fits.ensures)).1 in
    let all : take (length c.args.payload.now) c.args.word.now ≡ c.args.word.now = take_all (length c.args.payload.now) c.args.word.now (omega arith) in
    search rules
