use Rattle.std.proofs.Common.{◌≡◌, ℕ, ◌<◌, ◌≤◌, get_or}
use Rattle.base.specs.Bits.{bit_of}
use Rattle.bits.specs.Blocks.{block_bit}
use Rattle.bits.proofs.words.transform_each.Given as goal

abbrev pub invariant-loop-x : goal.invariant-loop-x
invariant-loop-x l =
    ((i : ℕ) → i < l.x-index → (k : ℕ) → k < 64 → bit_of (get_or l.words i 0) k ≡ block_bit 6 (bit_of (get_or l.initial.words i 0)) k)
    × ((i : ℕ) → l.x-index ≤ i → get_or l.words i 0 ≡ get_or l.initial.words i 0)
