use Rattle.std.proofs.Common.{◌≡◌, ◌≤◌, length, take}
use Rattle.bits.specs.Row.{row_bit}
use Rattle.model.specs.Blocks.{kinds_of}
use Rattle.model.specs.Reading.{first_bits}
use Rattle.search.specs.Paths.{information_from}
use Rattle.decoder.proofs.path.gather.Given as goal

abbrev pub invariant-loop-i : goal.invariant-loop-i
invariant-loop-i l =
    (take l.count l.room ≡ information_from (kinds_of l.plan) 0 (first_bits (row_bit l.path) l.i))
    × (l.count ≤ l.i) × (length l.room ≡ 1024)
