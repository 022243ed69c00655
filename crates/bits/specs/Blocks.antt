-- Bits packed in words of 64, and the transform of every aligned block of 2 ^ n of them. Assumes nothing.
use Rattle.std.specs.Prelude.{ℕ, ◌+◌, ◌*◌, ◌/◌, ◌%◌, ◌^◌, Bool, cond, List, ◌==◌, bit_xor, slice_index}
use Rattle.std.specs.Bool.{xor}
use Rattle.base.specs.Bits.{bit_of}
use Rattle.base.specs.Transform.{code_bit}

-- bit k stands at k % 64 of word k / 64
unfoldable pub words_bit : List ℕ → ℕ → Bool
words_bit words k = bit_of (slice_index words (k / 64)) (k % 64)

-- word i of a stage between words: where bit s of the index is 0, the word 2 ^ s further up is added
abbrev pub added_word : ℕ → List ℕ → ℕ → ℕ
added_word s words i = cond (i / 2 ^ s % 2 == 0) (bit_xor (slice_index words i) (slice_index words (i + 2 ^ s))) (slice_index words i)

-- bit k once every aligned block of 2 ^ n bits is replaced by its transform
unfoldable pub block_bit : ℕ → (ℕ → Bool) → ℕ → Bool
block_bit n u k = code_bit n (λ j. u (k / 2 ^ n * 2 ^ n + j)) (k % 2 ^ n)

-- one stage of the butterfly: where bit s of the index is 0, the bit 2 ^ s further up is added
abbrev pub stage_bit : ℕ → (ℕ → Bool) → ℕ → Bool
stage_bit s u k = cond (k / 2 ^ s % 2 == 0) (xor (u k) (u (k + 2 ^ s))) (u k)
