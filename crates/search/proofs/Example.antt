-- The small runs, computed. Assumes nothing.
use Rattle.std.proofs.Common.{◌≡◌, ◌<◌, ◌≤◌, Bool, true, false, List, [], ◌∷◌, ◌++◌, length, refl, arith}
use mathlib.Core.Bool.{xor, false≢true}
use Rattle.base.specs.Counts.{xor_below}
use Rattle.search.specs.Paths.{BlockLaws, child}
use Rattle.search.specs.Search.{advanced}
use Rattle.search.specs.Example.{two_bit_cost, two_bits, example_calls, example_answers, is_one_zero, begins_with_zero, checked_bits, checked_calls, checked_answers, AnsweredBy, SecondParityStands}

rising : (path : List Bool) (u : Bool) → length path < 2 → two_bit_cost path ≤ two_bit_cost (child path u)
unfolding two_bit_cost
rising [] u h = omega arith
rising (false ∷ []) false h = omega arith
rising (false ∷ []) true h = omega arith
rising (true ∷ []) u h = omega arith
rising (a ∷ (b ∷ rest)) u h = absurd (omega arith)

hopeful : (beginning rest : List Bool) → is_one_zero (beginning ++ rest) ≡ true → begins_with_zero beginning ≡ false
unfolding is_one_zero begins_with_zero
hopeful [] rest e = refl
hopeful (true ∷ beginning) rest e = refl
hopeful (false ∷ beginning) rest e = absurd (false≢true e)

pub two-bits-lawful : BlockLaws two_bits
unfolding two_bit_cost
two-bits-lawful = record { start = refl; rises = rising; hopes = λ beginning rest l a. refl }

pub two-bits-answered : AnsweredBy example_calls example_answers
unfolding advanced two_bit_cost xor_below
two-bits-answered = refl

pub checked-lawful : BlockLaws checked_bits
unfolding two_bit_cost
checked-lawful = record { start = refl; rises = rising; hopes = λ beginning rest l a. hopeful beginning rest a }

pub checked-answered : AnsweredBy checked_calls checked_answers
unfolding advanced two_bit_cost xor_below is_one_zero begins_with_zero
checked-answered = refl

pub second-parity : SecondParityStands
unfolding xor xor_below
second-parity = refl
