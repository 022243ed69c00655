-- The file has no fault where its error was mapped and is none. Assumes nothing.
use Rattle.std.proofs.Common.{rules}
use Rattle.inspect.proofs.Mapped.{ok-before}
use Rattle.inspect.proofs.sheet.inspect.Goals as goal

pub returns-in-Ok : goal.returns-in-Ok
returns-in-Ok c =
    let file = rw (ok-before c.examine.result c.map_err.result _ c.in_ok-block.block c.map_err.ensures.cases c.in_ok-block.was) at c.examine.ensures in
    search rules

pub returns-in-Err : goal.returns-in-Err
returns-in-Err c =
    let file = rw (ok-before c.examine.result c.map_err.result _ c.in_ok-block.block c.map_err.ensures.cases c.in_ok-block.was) at c.examine.ensures in
    search rules
