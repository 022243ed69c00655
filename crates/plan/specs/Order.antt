-- The mode of rate matching, the order of code places, the place of each sent bit, and which positions are barred.
-- n stands for the block length N = 2 ^ n. Assumes nothing.
use Rattle.std.specs.Prelude.{ℕ, ◌+◌, ◌-◌, ◌*◌, ◌/◌, ◌%◌, ◌^◌, Bool, false, cond, not, ◌||◌, List, [], ◌∷◌, nat_eq, nat_le, nat_lt, slice_index, slice_index_or, codes}
use Rattle.base.specs.Counts.{any_below}
use Rattle.plan.specs.declared.mode.Mode.{Mode}
use Rattle.plan.specs.declared.mode.Mode.TheVariants.{Repeat, Puncture, Shorten}

-- a mode as it prints
abbrev pub mode_name : Mode → List ℕ
mode_name Repeat = codes "repeat"
mode_name Puncture = codes "puncture"
mode_name Shorten = codes "shorten"

-- the order of the 32 equal parts of a block
unfoldable pub pattern : List ℕ
pattern = 0 ∷ 1 ∷ 2 ∷ 4 ∷ 3 ∷ 5 ∷ 6 ∷ 7 ∷ 8 ∷ 16 ∷ 9 ∷ 17 ∷ 10 ∷ 18 ∷ 11 ∷ 19 ∷ 12 ∷ 20 ∷ 13 ∷ 21 ∷ 14 ∷ 22 ∷ 15 ∷ 23 ∷ 24 ∷ 25 ∷ 26 ∷ 28 ∷ 27 ∷ 29 ∷ 30 ∷ 31 ∷ []

-- the place that stands at index k of the order
abbrev pub order_at : ℕ → ℕ → ℕ
order_at n k = slice_index pattern (32 * k / 2 ^ n) * (2 ^ n / 32) + k % (2 ^ n / 32)

-- K word bits, E sent bits
abbrev pub mode_of : (n K E : ℕ) → Mode
mode_of n K E = cond (nat_le (2 ^ n) E) Repeat (cond (nat_le (16 * K) (7 * E)) Puncture Shorten)

-- the code place of sent bit k
abbrev pub sent_place : Mode → (n E k : ℕ) → ℕ
sent_place Repeat n E k = order_at n (k % 2 ^ n)
sent_place Puncture n E k = order_at n (k + 2 ^ n - E)
sent_place Shorten n E k = order_at n k

-- some sent bit is code bit i
abbrev pub sent_by : Mode → (n E i : ℕ) → Bool
sent_by mode n E i = any_below (λ k. nat_eq (sent_place mode n E k) i) E

-- unsent, or below t
abbrev pub barred_by : Mode → (n E t i : ℕ) → Bool
barred_by mode n E t i = not (sent_by mode n E i) || nat_lt i t

-- the same, by marks of the sent places
abbrev pub barred_in : List Bool → (t i : ℕ) → Bool
barred_in marks t i = not (slice_index_or marks i false) || nat_lt i t
