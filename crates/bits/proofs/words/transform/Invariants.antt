use Rattle.std.proofs.Common.{◌≡◌, ℕ, ◌+◌, ◌*◌, ◌<◌, Bool, length}
use Rattle.bits.specs.Blocks.{block_bit, words_bit}
use Rattle.bits.proofs.words.transform.Given as goal

abbrev pub invariant-loop-s : goal.invariant-loop-s
invariant-loop-s l =
    (u : ℕ → Bool) → ((k : ℕ) → k < 64 * length l.words → words_bit l.initial.words k ≡ block_bit 6 u k)
    → (k : ℕ) → k < 64 * length l.words → words_bit l.words k ≡ block_bit (6 + l.s) u k
