-- The walk down the table of reliability: what holds after every rung, and the choice at its end. Assumes nothing.
use Rattle.std.proofs.Common.{◌≡◌, ℕ, suc, ◌+◌, ◌-◌, ◌<◌, ◌≤◌, Bool, true, false, cond, not, ◌&&◌, leb, List, [], ◌∷◌, ◌++◌, length, get_or, set, replicate, sym, refl, ap, ◌∙◌, subst, ap₂, subst₂, inl, inr, arith, length-set}
use Rattle.std.proofs.lemmas.List.{get_or-set_same, get_or-set_other, get_or-replicate, get_or_past, get_or_push, length-replicate, length_push}
use Rattle.std.proofs.Math.ListN.{get_or-append}
use Rattle.std.proofs.lemmas.Bool.{cases_eq, cases_lt, lt-ltb}
use Rattle.base.specs.Counts.{count_below}
use Rattle.base.proofs.Counts.{count-zero, count-suc, count_most, count_same, count-tail}
use Rattle.plan.specs.declared.kind.Kind.{Kind}
use Rattle.plan.specs.declared.kind.Kind.TheVariants.{Frozen}
use Rattle.plan.specs.Kinds.{kind_by, kind_of_rank, rank_by, open_count}
use Rattle.plan.specs.Reliability.{more_reliable, ladder}
use Rattle.plan.proofs.Ladder.{ladder-length, rung_at, rung-inside, rung-apart, rung-onto, rung-count, rung-order}
use Rattle.plan.proofs.Ranks.{barred-frozen, beyond-frozen}

-- the rungs from top on have been walked
pub record Walked (barred : ℕ → Bool) (K p top : ℕ) (kinds : List Kind) (open-so-far : ℕ) : Type 0 where
  pub size : length kinds ≡ 1024
  pub counted : open-so-far + count_below (λ m. not (barred (rung_at m))) top ≡ open_count barred 1024
  pub settled : (m : ℕ) → top ≤ m → m < 1024 → get_or kinds (rung_at m) Frozen ≡ kind_by more_reliable barred 1024 K p (rung_at m)
  pub untouched : (m : ℕ) → m < top → m < 1024 → get_or kinds (rung_at m) Frozen ≡ Frozen

module _ (barred : ℕ → Bool) (K p : ℕ) where
  open-rungs : count_below (λ m. not (barred (rung_at m))) 1024 ≡ open_count barred 1024
  open-rungs = rung-count (λ i. not (barred i))

  pub walked_none : Walked barred K p 1024 (replicate 1024 Frozen) 0
  walked_none = record {
    size = length-replicate 1024 Frozen;
    counted = omega (arith, open-rungs);
    settled = λ m l h. absurd (omega arith);
    untouched = λ m l h. get_or-replicate 1024 (rung_at m) Frozen Frozen (rung-inside m h);
  }

  -- the rank of a rung is the number of open rungs above it
  rank-at : (k : ℕ) → k < 1024
      → rank_by more_reliable barred 1024 (rung_at k) + count_below (λ m. not (barred (rung_at m))) (suc k) ≡ open_count barred 1024
  rank-at k l =
      let whole : 1024 - suc k + suc k ≡ 1024 = omega arith in
      let free : ℕ → Bool = λ m. not (barred (rung_at m)) in
      let tail : count_below (λ m. free m && leb (suc k) m) 1024 + count_below free (suc k) ≡ count_below free 1024 =
      subst (λ n. count_below (λ m. free m && leb (suc k) m) n + count_below free (suc k) ≡ count_below free n) whole
      (count-tail free (suc k) (1024 - suc k)) in
      let rank : rank_by more_reliable barred 1024 (rung_at k) ≡ count_below (λ m. free m && leb (suc k) m) 1024 =
      sym (rung-count (λ j. not (barred j) && more_reliable j (rung_at k)))
      ∙ count_same (λ m. free m && more_reliable (rung_at m) (rung_at k)) (λ m. free m && leb (suc k) m) 1024
      (λ m h. ap (λ b. free m && b) (rung-order m k h l)) in
      ap (λ x. x + count_below free (suc k)) rank ∙ tail ∙ open-rungs

  -- the kind of an open position is that of its rank
  open-kind : (i : ℕ) → i < 1024 → barred i ≡ false → kind_by more_reliable barred 1024 K p i ≡ kind_of_rank K p (rank_by more_reliable barred 1024 i)
  open-kind i l h =
      ap₂ (λ a b. cond (a && not b) (kind_of_rank K p (rank_by more_reliable barred 1024 i)) Frozen) (lt-ltb i 1024 l) h

  pub walked-open : (k : ℕ) (kinds : List Kind) (n : ℕ) → k < 1024 → barred (rung_at k) ≡ false
      → Walked barred K p (suc k) kinds n → Walked barred K p k (set kinds (rung_at k) (kind_of_rank K p n)) (n + 1)
  walked-open k kinds n l free h =
      let one : ◌≡◌ {A = ℕ} (cond (not (barred (rung_at k))) 1 0) 1 = ap {B = ℕ} (λ b. cond (not b) 1 0) free in
      let rank : n ≡ rank_by more_reliable barred 1024 (rung_at k) = omega (arith, h.counted, rank-at k l) in
      record {
        size = length-set kinds (rung_at k) (kind_of_rank K p n) ∙ h.size;
        counted = omega (arith, h.counted, one, count-suc (λ m. not (barred (rung_at m))) k);
        settled = λ m low high. elim (cases_eq m k) [
          | inl s ↦ ap (λ x. get_or (set kinds (rung_at k) (kind_of_rank K p n)) (rung_at x) Frozen) s
              ∙ get_or-set_same kinds (rung_at k) (kind_of_rank K p n) Frozen (subst (λ x. rung_at k < x) (sym h.size) (rung-inside k l))
              ∙ ap (kind_of_rank K p) rank ∙ sym (open-kind (rung_at k) (rung-inside k l) free)
              ∙ ap (λ x. kind_by more_reliable barred 1024 K p (rung_at x)) (sym s)
          | inr s ↦ get_or-set_other kinds (rung_at k) (rung_at m) (kind_of_rank K p n) Frozen (λ e. s (rung-apart m k high l e))
              ∙ h.settled m (omega arith) high
        ];
        untouched = λ m low high.
            get_or-set_other kinds (rung_at k) (rung_at m) (kind_of_rank K p n) Frozen
            (λ e. let same : m ≡ k = rung-apart m k high l e in omega arith)
            ∙ h.untouched m (omega arith) high;
      }

  pub walked-barred : (k : ℕ) (kinds : List Kind) (n : ℕ) → k < 1024 → barred (rung_at k) ≡ true
      → Walked barred K p (suc k) kinds n → Walked barred K p k kinds n
  walked-barred k kinds n l shut h =
      let none : ◌≡◌ {A = ℕ} (cond (not (barred (rung_at k))) 1 0) 0 = ap {B = ℕ} (λ b. cond (not b) 1 0) shut in
      record {
        size = h.size;
        counted = omega (arith, h.counted, none, count-suc (λ m. not (barred (rung_at m))) k);
        settled = λ m low high. elim (cases_eq m k) [
          | inl s ↦ ap (λ x. get_or kinds (rung_at x) Frozen) s ∙ h.untouched k (omega arith) l
              ∙ sym (barred-frozen more_reliable barred 1024 K p (rung_at k) shut) ∙ ap (λ x. kind_by more_reliable barred 1024 K p (rung_at x)) (sym s)
          | inr s ↦ h.settled m (omega arith) high
        ];
        untouched = λ m low high. h.untouched m (omega arith) high;
      }

  pub walked_all : (kinds : List Kind) (n : ℕ) → Walked barred K p 0 kinds n
      → (i : ℕ) → get_or kinds i Frozen ≡ kind_by more_reliable barred 1024 K p i
  walked_all kinds n h i =
      elim (cases_lt i 1024) [
        | inl s ↦ (let at = rung-onto i s in
            subst (λ x. get_or kinds x Frozen ≡ kind_by more_reliable barred 1024 K p x) at.2 (h.settled at.0 (omega arith) at.1))
        | inr s ↦ get_or_past kinds i Frozen (subst (λ x. x ≤ i) (sym h.size) s)
            ∙ sym (beyond-frozen more_reliable barred 1024 K p i s)
      ]

  pub walked-count : (kinds : List Kind) (n : ℕ) → Walked barred K p 0 kinds n → n ≡ open_count barred 1024
  walked-count kinds n h = omega (arith, h.counted, count-zero (λ m. not (barred (rung_at m))))

  pub walked-most : (top : ℕ) (kinds : List Kind) (n : ℕ) → Walked barred K p top kinds n → n ≤ 1024
  walked-most top kinds n h = omega (arith, h.counted, count_most (λ i. not (barred i)) 1024)

  -- what is left to walk is the beginning of the ladder, and the rungs past it have been walked
  pub record Leaves (rest : List ℕ) (kinds : List Kind) (open-so-far : ℕ) : Type 0 where
    pub few : length rest ≤ 1024
    pub rungs : (k : ℕ) → k < length rest → get_or rest k 0 ≡ rung_at k
    pub walked : Walked barred K p (length rest) kinds open-so-far

  pub leaves-ladder : Leaves ladder (replicate 1024 Frozen) 0
  leaves-ladder = record {
    few = omega (arith, ladder-length);
    rungs = λ k l. refl;
    walked = subst (λ top. Walked barred K p top (replicate 1024 Frozen) 0) (sym ladder-length) walked_none;
  }

  -- the last of what is left is the rung before those walked
  last-inside : (rest : List ℕ) (i : ℕ) (kinds : List Kind) (n : ℕ) → Leaves (rest ++ i ∷ []) kinds n → length rest < 1024
  last-inside rest i kinds n h = omega (arith, h.few, length_push rest i)

  last-rung : (rest : List ℕ) (i : ℕ) (kinds : List Kind) (n : ℕ) → Leaves (rest ++ i ∷ []) kinds n → i ≡ rung_at (length rest)
  last-rung rest i kinds n h = sym (get_or_push rest i 0 (length rest) refl) ∙ h.rungs (length rest) (omega (arith, length_push rest i))

  pub last-below : (rest : List ℕ) (i : ℕ) (kinds : List Kind) (n : ℕ) → Leaves (rest ++ i ∷ []) kinds n → i < 1024
  last-below rest i kinds n h = subst (λ x. x < 1024) (sym (last-rung rest i kinds n h)) (rung-inside (length rest) (last-inside rest i kinds n h))

  left-rungs : (rest : List ℕ) (i : ℕ) (kinds : List Kind) (n : ℕ) → Leaves (rest ++ i ∷ []) kinds n
      → (k : ℕ) → k < length rest → get_or rest k 0 ≡ rung_at k
  left-rungs rest i kinds n h k l = sym (get_or-append rest (i ∷ []) 0 k l) ∙ h.rungs k (omega (arith, length_push rest i))

  walked-before : (rest : List ℕ) (i : ℕ) (kinds : List Kind) (n : ℕ) → Leaves (rest ++ i ∷ []) kinds n → Walked barred K p (suc (length rest)) kinds n
  walked-before rest i kinds n h =
      let size : length (rest ++ i ∷ []) ≡ suc (length rest) = omega (arith, length_push rest i) in
      subst (λ top. Walked barred K p top kinds n) size h.walked

  pub leaves-open : (rest : List ℕ) (i : ℕ) (kind : Kind) (kinds : List Kind) (n : ℕ) → kind ≡ kind_of_rank K p n → barred i ≡ false
      → Leaves (rest ++ i ∷ []) kinds n → Leaves rest (set kinds i kind) (n + 1)
  leaves-open rest i kind kinds n is free h =
      let inside : length rest < 1024 = last-inside rest i kinds n h in
      let at : i ≡ rung_at (length rest) = last-rung rest i kinds n h in
      record {
        few = omega (arith, inside);
        rungs = left-rungs rest i kinds n h;
        walked = subst₂ (λ x y. Walked barred K p (length rest) (set kinds x y) (n + 1)) (sym at) (sym is)
            (walked-open (length rest) kinds n inside (ap barred (sym at) ∙ free) (walked-before rest i kinds n h));
      }

  pub leaves-barred : (rest : List ℕ) (i : ℕ) (kinds : List Kind) (n : ℕ) → barred i ≡ true
      → Leaves (rest ++ i ∷ []) kinds n → Leaves rest kinds n
  leaves-barred rest i kinds n shut h =
      let inside : length rest < 1024 = last-inside rest i kinds n h in
      let at : i ≡ rung_at (length rest) = last-rung rest i kinds n h in
      record {
        few = omega (arith, inside);
        rungs = left-rungs rest i kinds n h;
        walked = walked-barred (length rest) kinds n inside (ap barred (sym at) ∙ shut) (walked-before rest i kinds n h);
      }

  -- when none is left, all are walked
  pub leaves-none : (rest : List ℕ) (kinds : List Kind) (n : ℕ) → length rest ≡ 0 → Leaves rest kinds n → Walked barred K p 0 kinds n
  leaves-none rest kinds n none h = subst (λ top. Walked barred K p top kinds n) none h.walked
