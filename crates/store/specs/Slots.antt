-- The memory of a store: the candidates in use, how many may be, and the floor. Assumes nothing.
use Rattle.std.specs.Prelude.{ℕ, ◌≤◌, List, length, take, Option}
use Rattle.std.proofs.Common.{arith}
use Rattle.std.proofs.lemmas.List.{length-take-le}
use Rattle.store.specs.declared.candidate.Candidate.{Candidate}
use Rattle.store.specs.declared.slots.Slots.{Slots}

-- those in use stand in front
abbrev pub used : Slots → List Candidate
used s = take s.len s.all

-- how many may be in use
abbrev pub room : Slots → ℕ
room s = s.capacity

-- the least metric shed, absent until something has been shed
abbrev pub lowest : Slots → Option ℕ
lowest s = s.floor

pub used-within : (s : Slots) → length (used s) ≤ room s
used-within s = omega (arith, length-take-le s.len s.all (omega arith))
