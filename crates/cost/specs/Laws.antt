-- What is promised of the cost of a path. Assumes nothing.
use Rattle.std.specs.Prelude.{◌≡◌, ℕ, ◌+◌, ◌*◌, ◌^◌, ◌<◌, ◌≤◌, Bool, true, false, not, ◌↔◌, [], ◌∷◌, ℤ, pos, negsuc, ◌≢◌, slice_index_or, unsigned_abs}
use Rattle.std.specs.Bool.{xor}
use Rattle.base.specs.Counts.{sum_below}
use Rattle.base.specs.Transform.{code_bit, within}
use Rattle.cost.specs.Values.{contradicts, f, g}
use Rattle.cost.specs.Path.{decision, cost}

-- bits x and y of a pair cost what their code bits x + y and y contradict
abbrev pub PairIdentity : Type 0
PairIdentity =
    (a b : ℤ) (x y : Bool) → contradicts (f a b) x + contradicts (g a b x) y ≡ contradicts a (xor x y) + contradicts b y

abbrev pub WholePathCostsContradictions : Type 0
WholePathCostsContradictions =
    (n : ℕ) (llr : ℕ → ℤ) (u : ℕ → Bool) →
    cost n llr u (2 ^ n) ≡ sum_below (λ i. contradicts (llr i) (code_bit n u i)) (2 ^ n)

abbrev pub CostNeverFalls : Type 0
CostNeverFalls = (n : ℕ) (llr : ℕ → ℤ) (u : ℕ → Bool) (i j : ℕ) → i ≤ j → cost n llr u i ≤ cost n llr u j

-- no path, of any length, costs more than all magnitudes together
abbrev pub CostAtMostMagnitudes : Type 0
CostAtMostMagnitudes =
    (n : ℕ) (llr : ℕ → ℤ) (u : ℕ → Bool) (i : ℕ) → i ≤ 2 ^ n →
    cost n llr u i ≤ sum_below (λ k. unsigned_abs (llr k)) (2 ^ n)

-- so at most 2 ^ 30 where there are no more than 1,024 soft values within 1,048,576: no cost wraps in 32 bits
abbrev pub CostFits : Type 0
CostFits =
    (n : ℕ) (llr : ℕ → ℤ) (u : ℕ → Bool) → n ≤ 10 → ((k : ℕ) → k < 2 ^ n → unsigned_abs (llr k) ≤ 1048576) →
    (i : ℕ) → i ≤ 2 ^ n → cost n llr u i ≤ 2 ^ 30

-- with no soft value above m, no decision value is above 2 ^ n times m
abbrev pub DecisionBounded : Type 0
DecisionBounded =
    (n : ℕ) (llr : ℕ → ℤ) (u : ℕ → Bool) (m : ℕ) → ((k : ℕ) → k < 2 ^ n → unsigned_abs (llr k) ≤ m) →
    (i : ℕ) → unsigned_abs (decision n llr u i) ≤ 2 ^ n * m

-- u and v have the same first i bits
abbrev pub Agree : (u v : ℕ → Bool) (i : ℕ) → Type 0
Agree u v i = (k : ℕ) → k < i → u k ≡ v k

-- only the bits before i decide on the value at i, and only the first i on what they cost
abbrev pub DecisionLooksBack : Type 0
DecisionLooksBack =
    (n : ℕ) (llr : ℕ → ℤ) (u v : ℕ → Bool) (i : ℕ) → Agree u v i → decision n llr u i ≡ decision n llr v i

abbrev pub CostLooksBack : Type 0
CostLooksBack =
    (n : ℕ) (llr : ℕ → ℤ) (u v : ℕ → Bool) (i : ℕ) → Agree u v i → cost n llr u i ≡ cost n llr v i

-- no soft value is contradicted by the codeword of u
abbrev pub Clean : ℕ → (ℕ → ℤ) → (ℕ → Bool) → Type 0
Clean n llr u = (i : ℕ) → i < 2 ^ n → contradicts (llr i) (code_bit n u i) ≡ 0

-- where a soft value is 0, so are those at all binary subsets of its index
abbrev pub ZerosClosed : ℕ → (ℕ → ℤ) → Type 0
ZerosClosed n llr = (i j : ℕ) → i < 2 ^ n → j < 2 ^ n → within i j ≡ true → llr j ≡ pos 0 → llr i ≡ pos 0

abbrev pub CleanPathCostsNothing : Type 0
CleanPathCostsNothing =
    (n : ℕ) (llr : ℕ → ℤ) (u : ℕ → Bool) → Clean n llr u → (i : ℕ) → i ≤ 2 ^ n → cost n llr u i ≡ 0

abbrev pub CleanBitCostsNothing : Type 0
CleanBitCostsNothing =
    (n : ℕ) (llr : ℕ → ℤ) (u : ℕ → Bool) → Clean n llr u → (i : ℕ) → i < 2 ^ n →
    contradicts (decision n llr u i) (u i) ≡ 0

-- along a clean path the decision values are 0 exactly where the soft values are
abbrev pub CleanPathKeepsZeros : Type 0
CleanPathKeepsZeros =
    (n : ℕ) (llr : ℕ → ℤ) (u : ℕ → Bool) → Clean n llr u → ZerosClosed n llr → (i : ℕ) → i < 2 ^ n →
    (decision n llr u i ≡ pos 0) ↔ (llr i ≡ pos 0)

-- to leave a clean path where the soft value is not 0 costs something
abbrev pub WrongBitCosts : Type 0
WrongBitCosts =
    (n : ℕ) (llr : ℕ → ℤ) (u : ℕ → Bool) → Clean n llr u → ZerosClosed n llr → (i : ℕ) → i < 2 ^ n →
    (llr i ≢ pos 0) → 0 < contradicts (decision n llr u i) (not (u i))

-- soft values 3 and -5: paths 00, 01, 10 and 11 cost 5, 3, 8 and 0
abbrev pub pair_cost : Bool → Bool → ℕ
pair_cost x y = cost 1 (λ k. slice_index_or (pos 3 ∷ negsuc 4 ∷ []) k (pos 0)) (λ k. slice_index_or (x ∷ y ∷ []) k false) 2

abbrev pub CostsOfAPair : Type 0
CostsOfAPair =
    (pair_cost false false ≡ 5) × (pair_cost false true ≡ 3) × (pair_cost true false ≡ 8) × (pair_cost true true ≡ 0)
