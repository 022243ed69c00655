-- What a workspace works on. Assumes nothing.
use Rattle.std.specs.Borrow.{GName}
use Rattle.std.specs.Prelude.{List, ℤ, Option}
use Rattle.cost.specs.declared.memo.Memo.{Memo}
use Rattle.cost.specs.declared.soft.Soft.{Soft}
use Rattle.cost.specs.declared.workspace.Workspace.{Workspace}

-- its block
abbrev pub soft_in : Workspace → Soft
soft_in work = work.block.now

-- its scratch
abbrev pub list_in : Workspace → List ℤ
list_in work = work.scratch.now

-- the loan of it
abbrev pub loan_in : Workspace → GName
loan_in work = work.scratch.ghost_name

-- the position whose levels scratch has
abbrev pub last_in : Workspace → Option Memo
last_in work = work.last
