-- The decision value at a position of a path, and what the path costs. A block of 2 ^ n soft values or bits is a function
-- of the index beside its n; the first i bits of u are a path of length i. Assumes nothing.
use Rattle.std.specs.Prelude.{ℕ, zero, suc, ◌+◌, ◌-◌, ◌^◌, Bool, cond, ℤ, nat_lt}
use Rattle.base.specs.Counts.{sum_below}
use Rattle.base.specs.Transform.{code_bit}
use Rattle.cost.specs.Values.{contradicts, f, g}

-- what stands m places further
abbrev pub from : {X : Type 0} → ℕ → (ℕ → X) → ℕ → X
from m block k = block (m + k)

-- the values of the first half
abbrev pub first : ℕ → (ℕ → ℤ) → ℕ → ℤ
first n llr k = f (llr k) (llr (2 ^ n + k))

-- the values of the second half, once the bits of the first are known
abbrev pub second : ℕ → (ℕ → ℤ) → (ℕ → Bool) → ℕ → ℤ
second n llr u k = g (llr k) (llr (2 ^ n + k)) (code_bit n u k)

unfoldable pub decision : ℕ → (ℕ → ℤ) → (ℕ → Bool) → ℕ → ℤ
decision zero llr u i = llr 0
decision (suc n) llr u i =
    cond (nat_lt i (2 ^ n)) (decision n (first n llr) u i) (decision n (second n llr u) (from (2 ^ n) u) (i - 2 ^ n))

-- the cost of the first i bits of u, unclipped: the metric of that path
abbrev pub cost : ℕ → (ℕ → ℤ) → (ℕ → Bool) → ℕ → ℕ
cost n llr u i = sum_below (λ k. contradicts (decision n llr u k) (u k)) i
