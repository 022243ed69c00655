-- The kind of a position by its rank, for any order of reliability and any set of barred positions.
-- Assumes nothing: that the order is strict and total is a law of its own.
use Rattle.std.specs.Prelude.{ℕ, ◌+◌, Bool, true, false, cond, not, ◌&&◌, List, nat_lt, codes}
use Rattle.base.specs.Counts.{count_below}
use Rattle.plan.specs.declared.kind.Kind.{Kind}
use Rattle.plan.specs.declared.kind.Kind.TheVariants.{Frozen, Information, Parity}

-- a kind as it prints
abbrev pub kind_name : Kind → List ℕ
kind_name Frozen = codes "frozen"
kind_name Information = codes "information"
kind_name Parity = codes "parity"

abbrev pub is_information : Kind → Bool
is_information Frozen = false
is_information Information = true
is_information Parity = false

abbrev pub is_parity : Kind → Bool
is_parity Frozen = false
is_parity Information = false
is_parity Parity = true

-- how many positions below N that are not barred are more reliable than i; above j i says that j is
abbrev pub rank_by : (above : ℕ → ℕ → Bool) (barred : ℕ → Bool) → (N i : ℕ) → ℕ
rank_by above barred N i = count_below (λ j. not (barred j) && above j i) N

-- the first K ranks are information, the next p parity
abbrev pub kind_of_rank : (K p r : ℕ) → Kind
kind_of_rank K p r = cond (nat_lt r K) Information (cond (nat_lt r (K + p)) Parity Frozen)

abbrev pub kind_by : (above : ℕ → ℕ → Bool) (barred : ℕ → Bool) → (N K p i : ℕ) → Kind
kind_by above barred N K p i = cond (nat_lt i N && not (barred i)) (kind_of_rank K p (rank_by above barred N i)) Frozen

-- how many positions may be chosen
abbrev pub open_count : (barred : ℕ → Bool) → ℕ → ℕ
open_count barred N = count_below (λ i. not (barred i)) N
