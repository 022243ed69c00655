-- What a search needs of a store, as relations, and that every store's meaning meets them. Assumes nothing.
use Rattle.std.specs.Prelude.{◌≡◌, ℕ, ◌≤◌, true, List, [], ◌∷◌, ◌++◌, Some, None, Option}
use Rattle.std.specs.List.Sorted.{IsPermutation}
use Rattle.std.specs.List.{AllByRecursion}
use Rattle.store.specs.declared.candidate.Candidate.{Candidate}
use Rattle.store.specs.Lesser.{Bars}
use Rattle.store.specs.Meaning.{Left, Taken, puts, takes, lowered, metric_of}
use Rattle.store.specs.Order.{before}
use Rattle.store.specs.Ordered.{in_order}

-- the elements `were` are those that stay and some that were shed, each as often as it was there;
-- none that was shed costs less than the new floor, and the floor never rises
pub record Accounted {X : Type 0} (metric : X → ℕ) (were : List X) (floor : Option ℕ) (stay : List X) (floor' : Option ℕ) : Type 0 where
  pub lost : List X
  pub parts : IsPermutation were (stay ++ lost)
  pub barred : AllByRecursion (λ x. Bars floor' (metric x)) lost
  pub falls : (m : ℕ) → Bars floor m → Bars floor' m

-- a put accounts for what was kept and the newcomer
abbrev pub Puts : {X : Type 0} → (X → ℕ) → List X → Option ℕ → X → List X → Option ℕ → Type 0
Puts metric kept floor c kept' floor' = Accounted metric (c ∷ kept) floor kept' floor'

-- a take accounts for what was kept, with what is taken among those that stay, and nothing kept costs less
pub record Takes {X : Type 0} (metric : X → ℕ) (kept : List X) (floor : Option ℕ) (c : X) (kept' : List X) (floor' : Option ℕ) : Type 0 where
  pub account : Accounted metric kept floor (c ∷ kept') floor'
  pub least : AllByRecursion (λ x. metric c ≤ metric x) kept

abbrev pub PutIsAccounted : Type 0
PutIsAccounted =
    (capacity : ℕ) (kept : List Candidate) (floor : Option ℕ) (c : Candidate)
    → let left : Left Candidate = puts before capacity kept c in
    Puts metric_of kept floor c left.stays (lowered metric_of floor left.shed)

abbrev pub TakeIsLeastAndAccounted : Type 0
TakeIsLeastAndAccounted =
    (kept : List Candidate) (floor : Option ℕ) (c : Candidate) → in_order before kept ≡ true → (takes kept).answer ≡ Some c
    → let left : Taken Candidate = takes kept in
    Takes metric_of kept floor c left.stays (lowered metric_of floor left.shed)

abbrev pub TakeIsAbsentExactlyWhenEmpty : Type 0
TakeIsAbsentExactlyWhenEmpty =
    (kept : List Candidate) → ((takes kept).answer ≡ None → kept ≡ []) × (kept ≡ [] → (takes kept).answer ≡ None)
