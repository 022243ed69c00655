-- A heap of candidates: where its first and last stand, and what a write leaves. Assumes nothing.
use Rattle.std.specs.Prelude.{◌≡◌, ℕ, zero, suc, ◌+◌, ◌-◌, ◌*◌, ◌/◌, ◌<◌, ◌≤◌, true, List, length, ◌≢◌, slice_set}
use Rattle.std.proofs.Common.{arith, sym, ap, ◌∙◌, inl, inr}
use Rattle.std.proofs.lemmas.List.{get_or-set_other, get_or-set_same}
use Rattle.std.proofs.lemmas.Bool.{cases_eq, cases_lt}
use Rattle.store.specs.declared.candidate.Candidate.{Candidate}
use Rattle.store.specs.Order.{before}
use Rattle.store.proofs.Candidates.{strict}
use Rattle.store.proofs.Inserts.{not-before-carries-over}
use Rattle.heap.specs.Shape.{at, parent, NotBefore, Heaped, Rising}
use Rattle.heap.proofs.Sifts.{not-before-earlier, there}

module _ (xs : List Candidate) (n : ℕ) (heaped : Heaped xs n) where
  -- no candidate comes before the one in front
  front-within : (fuel k : ℕ) → k ≤ fuel → k < n → NotBefore xs k 0
  front-within fuel zero h l = strict.irreflexive _
  front-within zero (suc k) h l = absurd (let b : ⊥ = omega arith in b)
  front-within (suc fuel) (suc k) h l =
      let up : parent (suc k) ≤ fuel = omega arith in
      not-before-carries-over before strict (at xs (suc k)) (at xs (parent (suc k))) (at xs 0) (heaped (suc k) (omega arith) l) (front-within fuel (parent (suc k)) up (omega arith))

  pub front-first : (k : ℕ) → k < n → NotBefore xs k 0
  front-first k l = front-within k k (omega arith) l

  -- what comes before no candidate without children comes before none
  last_within : (p : ℕ) → ((k : ℕ) → n / 2 ≤ k → k < n → NotBefore xs p k) → (fuel k : ℕ) → n - k ≤ fuel → k < n → NotBefore xs p k
  last_within p leaves zero k h l = absurd (let b : ⊥ = omega arith in b)
  last_within p leaves (suc fuel) k h l =
      elim (cases_lt k (n / 2)) [
        | inl below ↦ let child : 2 * k + 1 < n = omega arith in
            let e : parent (2 * k + 1) ≡ k = omega arith in
            not-before-carries-over before strict (at xs p) (at xs (2 * k + 1)) (at xs k) (last_within p leaves fuel (2 * k + 1) (omega arith) child)
            (ap (λ m. before (at xs (2 * k + 1)) (at xs m)) (sym e) ∙ heaped (2 * k + 1) (omega arith) child)
        | inr leaf ↦ leaves k leaf l
      ]

  pub last-of-all : (p : ℕ) → ((k : ℕ) → n / 2 ≤ k → k < n → NotBefore xs p k) → (k : ℕ) → k < n → NotBefore xs p k
  last-of-all p leaves k l = last_within p leaves (n - k) k (omega arith) l

-- the newcomer in the place of one that it comes before
module _ (xs : List Candidate) (p : ℕ) (c : Candidate) (within : p < length xs) where
  abbrev written : List Candidate
  written = slice_set xs p c

  written-other : (k : ℕ) → (k ≢ p) → at written k ≡ at xs k
  written-other k ne = get_or-set_other xs p k c _ ne

  written-here : at written p ≡ c
  written-here = get_or-set_same xs p c _ within

  pub rising-in-place : before c (at xs p) ≡ true → Heaped xs (length xs) → Rising written (length xs) p
  rising-in-place earlier h = record {
    heaped = λ k a b ne.
        elim (cases_eq (parent k) p) [
          | inl e ↦ ap (λ y. before (at written k) (at written y)) e
              ∙ ap (λ y. before (at written k) y) written-here
              ∙ ap (λ y. before y c) (written-other k ne)
              ∙ not-before-earlier (at xs k) c (at xs p) earlier (ap (λ y. before (at xs k) (at xs y)) (sym e) ∙ h k a b)
          | inr e ↦ there xs written k (parent k) k (parent k) (written-other k ne) (written-other (parent k) e) (h k a b)
        ];
    bridged = λ k a b e q.
        there xs written k (parent p) k (parent p) (written-other k (λ r. omega arith)) (written-other (parent p) (λ r. omega arith))
        (not-before-carries-over before strict (at xs k) (at xs p) (at xs (parent p)) (ap (λ y. before (at xs k) (at xs y)) (sym e) ∙ h k a b) (h p q within));
  }
