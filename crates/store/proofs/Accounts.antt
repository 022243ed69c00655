-- That putting and taking account for every candidate. Assumes nothing.
use Rattle.std.proofs.Common.{◌≡◌, ℕ, ◌≤◌, Bool, true, false, cond, not, List, [], ◌∷◌, map, drop, Some, None, Option, refl, ap, ◌∙◌, subst, arith, take-append-drop}
use Rattle.std.specs.List.Sorted.{IsPermutation}
use Rattle.std.specs.List.{AllByRecursion}
use Rattle.std.proofs.ByRecursion.{All-weaker}
use Rattle.std.proofs.lemmas.List.{append-nil}
use Rattle.std.proofs.lemmas.List.Sorted.{IsPermutation-refl, IsPermutation-cons, IsPermutation-swap, IsPermutation-trans}
use Rattle.std.proofs.lemmas.Bool.{and_parts, not-true}
use Rattle.store.specs.Lesser.{lesser_of, Bars}
use Rattle.store.specs.Meaning.{puts, takes, lowered, metric_of}
use Rattle.store.specs.Order.{before}
use Rattle.store.specs.Ordered.{inserted, none_before, in_order}
use Rattle.store.specs.Promises.{Puts, Takes, PutIsAccounted, TakeIsLeastAndAccounted}
use Rattle.store.proofs.Candidates.{earlier-costs-no-more}
use Rattle.store.proofs.Inserts.{none-before-head}

-- the lesser of two bars what either bars
pub lesser-bars-left : (f g : Option ℕ) (m : ℕ) → Bars f m → Bars (lesser_of f g) m
lesser-bars-left None g m h = absurd h
lesser-bars-left (Some a) None m h = h
lesser-bars-left (Some a) (Some b) m h = omega arith

pub lesser-bars-right : (f g : Option ℕ) (m : ℕ) → Bars g m → Bars (lesser_of f g) m
lesser-bars-right None g m h = h
lesser-bars-right (Some a) None m h = absurd h
lesser-bars-right (Some a) (Some b) m h = omega arith

module _ {X : Type 0} (metric : X → ℕ) (floor : Option ℕ) where
  pub lowered-falls : (xs : List X) (m : ℕ) → Bars floor m → Bars (lowered metric floor xs) m
  unfolding lowered
  lowered-falls [] m h = h
  lowered-falls (x ∷ xs) m h = lesser-bars-left (lowered metric floor xs) (Some (metric x)) m (lowered-falls xs m h)

  pub lowered-bars : (xs : List X) → AllByRecursion (λ x. Bars (lowered metric floor xs) (metric x)) xs
  unfolding lowered
  lowered-bars [] = tt
  lowered-bars (x ∷ xs) = (
    lesser-bars-right (lowered metric floor xs) (Some (metric x)) (metric x) (omega arith),
    All-weaker (λ y. Bars (lowered metric floor xs) (metric y))
        (λ y. Bars (lesser_of (lowered metric floor xs) (Some (metric x))) (metric y))
        (λ y. lesser-bars-left (lowered metric floor xs) (Some (metric x)) (metric y)) xs (lowered-bars xs),
  )

-- an insertion only moves the newcomer
pub shuffled-inserted : {X : Type 0} (before : X → X → Bool) (xs : List X) (c : X) → IsPermutation (c ∷ xs) (inserted before xs c)
unfolding inserted
shuffled-inserted before [] c = IsPermutation-refl (c ∷ [])
shuffled-inserted before (x ∷ xs) c =
    elim (before x c) as (λ b. IsPermutation (c ∷ x ∷ xs) (cond b (x ∷ inserted before xs c) (c ∷ x ∷ xs))) [
      | true ↦ IsPermutation-trans (c ∷ x ∷ xs) (x ∷ c ∷ xs) (x ∷ inserted before xs c) (IsPermutation-swap (c ∷ x ∷ xs) (x ∷ c ∷ xs) 0 1 (omega arith) (omega arith) refl) (IsPermutation-cons x (c ∷ xs) (inserted before xs c) (shuffled-inserted before xs c))
      | false ↦ IsPermutation-refl (c ∷ x ∷ xs)
    ]

-- whatever the test and the metric
pub put-accounted :
    {X : Type 0} (before : X → X → Bool) (metric : X → ℕ) (capacity : ℕ) (kept : List X) (floor : Option ℕ) (c : X)
    → Puts metric kept floor c (puts before capacity kept c).stays (lowered metric floor (puts before capacity kept c).shed)
put-accounted before metric capacity kept floor c =
    let all = inserted before kept c in
    record {
      lost = drop capacity all;
      parts = rw take-append-drop (shuffled-inserted before kept c);
      barred = lowered-bars metric floor (drop capacity all);
      falls = lowered-falls metric floor (drop capacity all);
    }

pub put-is-accounted : PutIsAccounted
put-is-accounted = put-accounted before metric_of

-- whatever the test, if what it does not put first costs no less
module _ {X : Type 0} (before : X → X → Bool) (metric : X → ℕ) (by-metric : (a b : X) → before b a ≡ false → metric a ≤ metric b) where
  least_first : (c : X) (xs : List X) → none_before before c xs ≡ true → AllByRecursion (λ x. metric c ≤ metric x) xs
  unfolding none_before
  least_first c [] h = tt
  least_first c (x ∷ xs) h =
      let p = and_parts (not (before x c)) (none_before before c xs) h in
      (by-metric c x (not-true _ p.0), least_first c xs p.1)

  pub take-accounted :
      (kept : List X) (floor : Option ℕ) (c : X) → in_order before kept ≡ true → (takes kept).answer ≡ Some c
      → Takes metric kept floor c (takes kept).stays (lowered metric floor (takes kept).shed)
  unfolding lowered
  take-accounted [] floor c h e = let z : ◌≡◌ {A = ℕ} 0 1 = cc in absurd (let b : ⊥ = omega arith in b)
  take-accounted (x ∷ xs) floor c h e =
      let same : x ≡ c = cc in
      let taken : Takes metric (x ∷ xs) floor x xs floor = record {
        account = record { lost = []; parts = rw append-nil (IsPermutation-refl (x ∷ xs)); barred = tt; falls = λ m b. b };
        least = (omega arith, least_first x xs (none-before-head before x xs h));
      } in
      subst (λ y. Takes metric (x ∷ xs) floor y xs floor) same taken

pub take-is-least-and-accounted : TakeIsLeastAndAccounted
take-is-least-and-accounted = take-accounted before metric_of earlier-costs-no-more

pub take-sheds-nothing : {X : Type 0} (metric : X → ℕ) (floor : Option ℕ) (xs : List X) → floor ≡ lowered metric floor (takes xs).shed
unfolding lowered
take-sheds-nothing metric floor [] = refl
take-sheds-nothing metric floor (x ∷ xs) = refl

-- the floor is lowered alike by elements and by what they are read as
pub lowered-map :
    {X Y : Type 0} (f : X → Y) (metric : X → ℕ) (metric' : Y → ℕ) → ((x : X) → metric' (f x) ≡ metric x) → (floor : Option ℕ) (xs : List X)
    → lowered metric' floor (map f xs) ≡ lowered metric floor xs
unfolding lowered
lowered-map f metric metric' same floor [] = refl
lowered-map f metric metric' same floor (x ∷ xs) =
    ap (λ b. lesser_of b (Some (metric' (f x)))) (lowered-map f metric metric' same floor xs)
    ∙ ap (λ m. lesser_of (lowered metric floor xs) (Some m)) (same x)
