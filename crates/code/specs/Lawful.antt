-- Lawful bits: what frozen and parity positions hold. Assumes nothing.
-- Bits u and the kinds of positions are functions of the index; m is how many bits there are.
use Rattle.std.specs.Prelude.{◌≡◌, ℕ, ◌%◌, ◌<◌, Bool, false, ◌&&◌, ◌==◌}
use Rattle.base.specs.Counts.{xor_below}
use Rattle.plan.specs.Kinds.{is_information}
use Rattle.plan.specs.declared.kind.Kind.{Kind}
use Rattle.plan.specs.declared.kind.Kind.TheVariants.{Frozen, Parity}

-- the sum modulo 2 of the information bits at j < i with j ≡ i modulo 5; parity bits are never added into it
abbrev pub parity_sum : (kinds : ℕ → Kind) (u : ℕ → Bool) → ℕ → Bool
parity_sum kinds u i = xor_below (λ j. is_information (kinds j) && (j % 5 == i % 5 && u j)) i

-- the first m bits are 0 at frozen positions
abbrev pub FrozenZero : (kinds : ℕ → Kind) (m : ℕ) (u : ℕ → Bool) → Type 0
FrozenZero kinds m u = (i : ℕ) → i < m → kinds i ≡ Frozen → u i ≡ false

-- the first m bits are their sums at parity positions
abbrev pub ParitySummed : (kinds : ℕ → Kind) (m : ℕ) (u : ℕ → Bool) → Type 0
ParitySummed kinds m u = (i : ℕ) → i < m → kinds i ≡ Parity → u i ≡ parity_sum kinds u i

-- the first m bits obey the kinds of their positions
pub record Lawful (kinds : ℕ → Kind) (m : ℕ) (u : ℕ → Bool) : Type 0 where
  pub frozen : FrozenZero kinds m u
  pub parity : ParitySummed kinds m u
