-- What a table keeps, how many it may keep, and its floor. Assumes nothing.
use Rattle.std.specs.Prelude.{ℕ, List, Option}
use Rattle.store.specs.declared.candidate.Candidate.{Candidate}
use Rattle.store.specs.declared.table.Table.{Table}
use Rattle.store.specs.Slots.{used, room, lowest}

abbrev pub table_kept : Table → List Candidate
table_kept t = used t.slots

abbrev pub table_capacity : Table → ℕ
table_capacity t = room t.slots

abbrev pub table_floor : Table → Option ℕ
table_floor t = lowest t.slots
