-- The kinds by rank: exact counts, for every strict total order of reliability. Assumes nothing.
use Rattle.std.proofs.Common.{◌≡◌, ℕ, ◌+◌, ◌<◌, ◌≤◌, Bool, true, false, cond, not, ◌&&◌, ltb, sym, refl, ap, ◌∙◌, ap₂, inl, inr, arith}
use Rattle.std.proofs.lemmas.Bool.{and_parts, and_from, and_left, and_right, cases_eq, cases_lt, both_ways, lt-ltb, le-ltb, ltb-true}
use Rattle.base.specs.Counts.{count_below}
use Rattle.base.proofs.Counts.{count_same, count_add, count_less, count-longer, met-below}
use Rattle.plan.specs.declared.kind.Kind.TheVariants.{Frozen, Information, Parity}
use Rattle.plan.specs.Kinds.{is_information, is_parity, rank_by, kind_of_rank, kind_by, open_count}
use Rattle.plan.specs.Laws.{KindsCounted}
use Rattle.plan.specs.Reliability.{StrictTotal}

module _ (above : ℕ → ℕ → Bool) (order : StrictTotal above) (barred : ℕ → Bool) (N : ℕ) where
  -- a more reliable open position has the smaller rank
  rank_less : (i j : ℕ) → j < N → not (barred j) ≡ true → above j i ≡ true
      → rank_by above barred N j < rank_by above barred N i
  rank_less i j l free up =
      count_less (λ k. not (barred k) && above k j) (λ k. not (barred k) && above k i) N
      (λ k m h. let parts = and_parts (not (barred k)) (above k j) h in
      and_from (not (barred k)) (above k i) parts.0 (order.transitive k j i parts.1 up))
      j l (and_right (not (barred j)) (above j j) (order.irreflexive j)) (and_from (not (barred j)) (above j i) free up)

  rank-inside : (i : ℕ) → i < N → not (barred i) ≡ true → rank_by above barred N i < open_count barred N
  rank-inside i l free =
      count_less (λ k. not (barred k) && above k i) (λ k. not (barred k)) N
      (λ k m h. (and_parts (not (barred k)) (above k i) h).0)
      i l (and_right (not (barred i)) (above i i) (order.irreflexive i)) free

  rank-apart : (i j : ℕ) → i < N → j < N → not (barred i) ≡ true → not (barred j) ≡ true
      → rank_by above barred N i ≡ rank_by above barred N j → i ≡ j
  rank-apart i j l m fi fj e =
      elim (cases_eq i j) [
        | inl same ↦ same
        | inr other ↦ elim (order.total i j other) [
          | inl up ↦ absurd (omega (arith, e, rank_less j i l fi up))
          | inr up ↦ absurd (omega (arith, e, rank_less i j m fj up))
        ]
      ]

  -- exactly r open positions have a rank below r, while there are so many
  pub ranks-below : (r : ℕ) → r ≤ open_count barred N
      → count_below (λ i. not (barred i) && ltb (rank_by above barred N i) r) N ≡ r
  ranks-below =
      met-below (λ i. not (barred i)) (rank_by above barred N) N (open_count barred N) refl rank-inside rank-apart

-- what the kind at a rank says of that rank, with the position's own tests
information-at : (inside free : Bool) (K p r : ℕ) → inside ≡ true
    → is_information (cond (inside && free) (kind_of_rank K p r) Frozen) ≡ (free && ltb r K)
information-at true true K p r h = by_rank (ltb r K) (ltb r (K + p))
  where
    by_rank : (a b : Bool) → is_information (cond a Information (cond b Parity Frozen)) ≡ a
    by_rank true b = refl
    by_rank false true = refl
    by_rank false false = refl
information-at true false K p r h = refl
information-at false free K p r h = absurd (both_ways false refl h)

parity-at : (inside free : Bool) (K p r : ℕ) → inside ≡ true
    → cond (free && ltb r K) 1 0 + cond (is_parity (cond (inside && free) (kind_of_rank K p r) Frozen)) 1 0
    ≡ cond (free && ltb r (K + p)) 1 0
parity-at true true K p r h = by_rank (ltb r K) (ltb r (K + p)) (λ s. lt-ltb r (K + p) (omega (arith, ltb-true r K s)))
  where
    by_rank : (a b : Bool) → (a ≡ true → b ≡ true)
        → cond a 1 0 + cond (is_parity (cond a Information (cond b Parity Frozen))) 1 0 ≡ cond b 1 0
    by_rank true true e = refl
    by_rank true false e = absurd (both_ways false refl (e refl))
    by_rank false true e = refl
    by_rank false false e = refl
parity-at true false K p r h = refl
parity-at false free K p r h = absurd (both_ways false refl h)

pub kinds-counted : KindsCounted
kinds-counted above order barred N K p enough =
    let information : count_below (λ i. is_information (kind_by above barred N K p i)) N ≡ K =
    count_same (λ i. is_information (kind_by above barred N K p i)) (λ i. not (barred i) && ltb (rank_by above barred N i) K) N
    (λ i l. information-at (ltb i N) (not (barred i)) K p (rank_by above barred N i) (lt-ltb i N l))
    ∙ ranks-below above order barred N K (omega arith) in
    record {
      informations = information;
      parities = omega (
        arith,
        information,
        ranks-below above order barred N K (omega arith),
        ranks-below above order barred N (K + p) enough,
        count_add (λ i. not (barred i) && ltb (rank_by above barred N i) K) (λ i. is_parity (kind_by above barred N K p i))
            (λ i. not (barred i) && ltb (rank_by above barred N i) (K + p)) N
            (λ i l. parity-at (ltb i N) (not (barred i)) K p (rank_by above barred N i) (lt-ltb i N l)),
      );
    }

-- what is barred is frozen, and so is what lies beyond the block
pub barred-frozen : (above : ℕ → ℕ → Bool) (barred : ℕ → Bool) (N K p i : ℕ) → barred i ≡ true → kind_by above barred N K p i ≡ Frozen
barred-frozen above barred N K p i h =
    ap (λ b. cond b (kind_of_rank K p (rank_by above barred N i)) Frozen) (and_right (ltb i N) (not (barred i)) (ap not h))

pub beyond-frozen : (above : ℕ → ℕ → Bool) (barred : ℕ → Bool) (N K p i : ℕ) → N ≤ i → kind_by above barred N K p i ≡ Frozen
beyond-frozen above barred N K p i h =
    ap (λ b. cond b (kind_of_rank K p (rank_by above barred N i)) Frozen) (and_left (ltb i N) (not (barred i)) (le-ltb i N h))

-- a range beyond which all is barred gives the same kinds and the same count
pub kind-longer : (above : ℕ → ℕ → Bool) (barred : ℕ → Bool) (N m K p : ℕ) → ((i : ℕ) → N ≤ i → barred i ≡ true)
    → (i : ℕ) → kind_by above barred (m + N) K p i ≡ kind_by above barred N K p i
kind-longer above barred N m K p h i =
    ap₂ (λ b r. cond b (kind_of_rank K p r) Frozen) (same_test (ltb i (m + N)) (ltb i N) (barred i) (λ s. elim (cases_lt i N) [
      | inl l ↦ lt-ltb i (m + N) (omega arith) ∙ sym (lt-ltb i N l)
      | inr l ↦ absurd (both_ways (barred i) s (h i l))
    ]))
    (count-longer (λ j. not (barred j) && above j i) N m (λ k l. and_left (not (barred k)) (above k i) (ap not (h k l))))
  where
    same_test : (a b c : Bool) → (c ≡ false → a ≡ b) → (a && not c) ≡ (b && not c)
    same_test a b true e = and_right a false refl ∙ sym (and_right b false refl)
    same_test a b false e = ap (λ x. x && true) (e refl)

pub open-longer : (barred : ℕ → Bool) (N m : ℕ) → ((i : ℕ) → N ≤ i → barred i ≡ true) → open_count barred (m + N) ≡ open_count barred N
open-longer barred N m h = count-longer (λ j. not (barred j)) N m (λ k l. ap not (h k l))
