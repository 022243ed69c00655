-- What holds of the transform itself: it goes by halves; and its fixed point at 32 bits. Assumes nothing.
use Rattle.std.specs.Prelude.{◌≡◌, ℕ, suc, ◌+◌, ◌^◌, ◌<◌, Bool, ◌||◌, ◌==◌, nat_eq}
use Rattle.std.specs.Bool.{xor}
use Rattle.base.specs.Transform.{code_bit}

-- a code bit of the lower half is the sum of the two halves' code bits there; the upper half has those of the second half
pub record Halves (n : ℕ) (u : ℕ → Bool) (i : ℕ) : Type 0 where
  pub low : code_bit (suc n) u i ≡ xor (code_bit n u i) (code_bit n (λ k. u (2 ^ n + k)) i)
  pub high : code_bit (suc n) u (2 ^ n + i) ≡ code_bit n (λ k. u (2 ^ n + k)) i

-- the code bits at 32 bits where u5 alone is set
abbrev pub of_five : ℕ → Bool
of_five i = i == 0 || (i == 1 || (i == 4 || i == 5))

abbrev pub OneOf32 : Type 0
OneOf32 = (i : ℕ) → i < 32 → code_bit 5 (λ k. nat_eq k 5) i ≡ of_five i
