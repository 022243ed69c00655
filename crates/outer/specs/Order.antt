-- The bits that an iterator over a spread word has left. Assumes nothing.
use Rattle.std.specs.Prelude.{ℕ, List}
use Rattle.crc.specs.Spread.{struck}
use Rattle.outer.specs.declared.bits.Bits.{Bits}

abbrev pub left : Bits → List ℕ
left b = struck b.struck b.order.now
