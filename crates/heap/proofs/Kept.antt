-- What a heap keeps, in order, after each of its writes. Assumes a heap where it says so.
use Rattle.std.specs.Prelude.{◌≡◌, ℕ, zero, suc, ◌+◌, ◌/◌, ◌<◌, ◌≤◌, Bool, true, false, ◌||◌, List, [], ◌∷◌, ◌++◌, length, take, drop, Some, None, Option, MatchOption, ◌==◌, slice_set, refl}
use Rattle.std.proofs.Common.{arith, sym, ap, subst, ◌∙◌}
use Rattle.std.specs.List.{AllByRecursion}
use Rattle.std.proofs.ByRecursion.{All-from_get_or, All-set}
use Rattle.std.proofs.lemmas.List.{drop_all, get_or-take, length-set, length_push, length-take-le, same_from_push, set_split, take_all, take_more}
use Rattle.store.specs.declared.candidate.Candidate.{Candidate}
use Rattle.store.specs.Meaning.{first_metric, holds_row, takes}
use Rattle.store.specs.Order.{before}
use Rattle.store.specs.Ordered.{inserted}
use Rattle.store.proofs.Candidates.{strict}
use Rattle.store.proofs.Inserts.{by-test, full-sheds, full-stays, insert-after, insert-here, not-before-back, not-before-carries-over}
use Rattle.heap.specs.Shape.{at, NotBefore, Heaped, Last}
use Rattle.heap.specs.Sorting.{sorted}
use Rattle.heap.specs.Sorts.{all-sorted, length-sorted, sorted-first, in-order-sorted, sorted-push, sorted-set, insert-last}
use Rattle.heap.proofs.Writes.{front-first, last-of-all}

-- without room, with p the place of the last
module _ (xs : List Candidate) (heaped : Heaped xs (length xs)) (p : ℕ) (found : Last xs (length xs / 2) p) (c : Candidate) where
  abbrev all : List Candidate
  all = inserted before (sorted before xs) c

  last : (k : ℕ) → k < length xs → NotBefore xs p k
  last = last-of-all xs (length xs) heaped p found.last

  ends-with-newcomer : before c (at xs p) ≡ false → all ≡ sorted before xs ++ c ∷ []
  ends-with-newcomer h =
      insert-last before strict (sorted before xs) c (in-order-sorted before strict xs)
      (all-sorted before (λ x. before c x ≡ false) xs
      (All-from_get_or (λ x. before c x ≡ false) xs _ (λ k l. not-before-carries-over before strict c (at xs p) (at xs k) h (last k l))))

  ends-with-last : before c (at xs p) ≡ true → all ≡ sorted before (slice_set xs p c) ++ at xs p ∷ []
  ends-with-last h =
      let w : Candidate = at xs p in
      let others : AllByRecursion (λ x. before w x ≡ false) (slice_set xs p c) =
      All-set (λ x. before w x ≡ false) xs p c (not-before-back before strict c w h) (All-from_get_or (λ x. before w x ≡ false) xs _ last) in
      sym (sorted-set before strict xs p c _ found.within)
      ∙ insert-last before strict (sorted before (slice_set xs p c)) w (in-order-sorted before strict (slice_set xs p c)) (all-sorted before (λ x. before w x ≡ false) (slice_set xs p c) others)

  module _ (capacity : ℕ) (full : length xs ≡ capacity) where
    -- the newcomer is shed
    pub newcomer-shed : before c (at xs p) ≡ false → (sorted before xs ≡ take capacity all) × (drop capacity all ≡ c ∷ [])
    newcomer-shed h =
        let long : length (sorted before xs) ≡ capacity = length-sorted before xs ∙ full in
        (sym (full-stays all (sorted before xs) c capacity long (ends-with-newcomer h)), full-sheds all (sorted before xs) c capacity long (ends-with-newcomer h))

    -- the newcomer takes the place of the last, which is shed
    pub last-shed : before c (at xs p) ≡ true → (sorted before (slice_set xs p c) ≡ take capacity all) × (drop capacity all ≡ at xs p ∷ [])
    last-shed h =
        let ys : List Candidate = sorted before (slice_set xs p c) in
        let long : length ys ≡ capacity = length-sorted before (slice_set xs p c) ∙ length-set xs p c ∙ full in
        (sym (full-stays all ys (at xs p) capacity long (ends-with-last h)), full-sheds all ys (at xs p) capacity long (ends-with-last h))

-- the first goes, and the one from the end of the front takes its place
others-kept :
    (x : Candidate) (xs : List Candidate) (m : ℕ) → m ≤ length xs
    → sorted before (take m (slice_set (x ∷ xs) 0 (at (x ∷ xs) m))) ≡ sorted before (take m xs)
unfolding sorted
others-kept x xs zero h = refl
others-kept x xs (suc m) h =
    let e : m + 1 ≡ suc m = omega arith in
    sym (sorted-push before strict (take m xs) (at xs m)) ∙ ap (sorted before) (sym (take_more xs m _ h)) ∙ ap (λ k. sorted before (take k xs)) e

first-kept :
    (xs : List Candidate) (m : ℕ) → m < length xs → Heaped xs (suc m)
    → sorted before (take (suc m) xs) ≡ at xs 0 ∷ sorted before (take m (slice_set xs 0 (at xs m)))
first-kept [] m fits heaped = absurd (let b : ⊥ = omega arith in b)
first-kept (x ∷ xs) m fits heaped =
    let short : m ≤ length xs = omega arith in
    sorted-first before x (take m xs)
    (All-from_get_or (λ y. before y x ≡ false) (take m xs) _ (λ k l.
    let lt : k < m = omega (arith, length-take-le m xs short, l) in
    ap (λ y. before y x) (get_or-take m xs k _ lt) ∙ front-first (x ∷ xs) (suc m) heaped (suc k) (omega arith)))
    ∙ ap (λ ys. x ∷ ys) (sym (others-kept x xs m short))

kept-first :
    (xs : List Candidate) (m : ℕ) → length xs ≡ suc m → Heaped xs (length xs)
    → sorted before xs ≡ at xs 0 ∷ sorted before (take m (slice_set xs 0 (at xs m)))
kept-first xs m long heaped =
    ap (sorted before) (sym (take_all (suc m) xs (omega arith))) ∙ first-kept xs m (omega arith) (subst (Heaped xs) long heaped)

-- the first and the last change places
moved_split :
    (xs : List Candidate) (m : ℕ) → length xs ≡ suc m
    → slice_set (slice_set xs 0 (at xs m)) m (at xs 0) ≡ take m (slice_set xs 0 (at xs m)) ++ at xs 0 ∷ []
moved_split xs m long =
    let moved : List Candidate = slice_set xs 0 (at xs m) in
    let size : length moved ≡ suc m = length-set xs 0 (at xs m) ∙ long in
    set_split moved m (at xs 0) (omega arith) ∙ ap (λ ws. take m moved ++ at xs 0 ∷ ws) (drop_all (suc m) moved (omega arith))

-- and then the last goes out of use
swapped-popped :
    (xs ys : List Candidate) {zs : List Candidate} (m : ℕ) (r : Option Candidate) → length xs ≡ suc m
    → zs ≡ slice_set (slice_set xs 0 (at xs m)) m (at xs 0) → MatchOption r (zs ≡ []) (λ c. zs ≡ ys ++ c ∷ [])
    → (r ≡ Some (at xs 0)) × (ys ≡ take m (slice_set xs 0 (at xs m)))
swapped-popped xs ys m None long e h =
    let none : 0 ≡ length (take m (slice_set xs 0 (at xs m)) ++ at xs 0 ∷ []) = ap length (sym h ∙ e ∙ moved_split xs m long) in
    absurd (let b : ⊥ = omega (arith, none, length_push (take m (slice_set xs 0 (at xs m))) (at xs 0)) in b)
swapped-popped xs ys m (Some c) long e h =
    let same = same_from_push ys (take m (slice_set xs 0 (at xs m))) c (at xs 0) (sym h ∙ e ∙ moved_split xs m long) in
    (ap Some same.1, same.0)

-- which is what a take does, once those in use are in order
pub taken :
    (xs ys : List Candidate) {zs : List Candidate} (m : ℕ) (r : Option Candidate) → length xs ≡ suc m → Heaped xs (length xs)
    → zs ≡ slice_set (slice_set xs 0 (at xs m)) m (at xs 0) → MatchOption r (zs ≡ []) (λ c. zs ≡ ys ++ c ∷ [])
    → (r ≡ (takes (sorted before xs)).answer) × (sorted before ys ≡ (takes (sorted before xs)).stays)
taken xs ys m r long heaped e h =
    let split = kept-first xs m long heaped in
    let popped = swapped-popped xs ys m r long e h in
    (popped.0 ∙ sym (ap (λ ws. (takes ws).answer) split), ap (sorted before) popped.1 ∙ sym (ap (λ ws. (takes ws).stays) split))

-- of none there is none in order
pub sorted-none : (xs : List Candidate) → xs ≡ [] → sorted before xs ≡ []
unfolding sorted
sorted-none xs e = ap (sorted before) e

-- the first of the slots is the first of the kept
pub first_metric-sorted : (xs : List Candidate) → Heaped xs (length xs) → first_metric xs ≡ first_metric (sorted before xs)
unfolding sorted
first_metric-sorted [] h = refl
first_metric-sorted (x ∷ xs) h = sym (ap first_metric (kept-first (x ∷ xs) (length xs) refl h))

or_swap : (a b c : Bool) → (a || (b || c)) ≡ (b || (a || c))
or_swap true true c = refl
or_swap true false c = refl
or_swap false b c = refl

holds-inserted : (row : ℕ) (xs : List Candidate) (c : Candidate) → holds_row row (inserted before xs c) ≡ (c.row == row || holds_row row xs)
unfolding holds_row inserted
holds-inserted row [] c = refl
holds-inserted row (x ∷ xs) c =
    by-test (before x c)
    (λ t. ap (holds_row row) (insert-after before x xs c t) ∙ ap (λ b. (x.row == row) || b) (holds-inserted row xs c)
    ∙ or_swap (x.row == row) (c.row == row) (holds_row row xs))
    (λ f. ap (holds_row row) (insert-here before x xs c f))

pub holds-sorted : (row : ℕ) (xs : List Candidate) → holds_row row (sorted before xs) ≡ holds_row row xs
unfolding holds_row sorted
holds-sorted row [] = refl
holds-sorted row (x ∷ xs) =
    holds-inserted row (sorted before xs) x ∙ ap (λ b. (x.row == row) || b) (holds-sorted row xs)
