-- From the choice of kinds to a lawful plan, and what a request within its limits says. Assumes nothing.
use Rattle.std.proofs.Common.{◌≡◌, ℕ, ◌+◌, ◌-◌, ◌≤◌, Bool, true, false, cond, not, ◌||◌, ltb, List, map, get_or, set, replicate, sym, refl, ap, ◌∙◌, subst, ap₂, Some, None, inl, inr, zero-add, arith, lit≤, pow_mono}
use mathlib.Core.Path.{fun_ext}
use Rattle.std.proofs.lemmas.List.{get_or-set_other, get_or-replicate, get_or_past, length-replicate}
use Rattle.std.proofs.lemmas.List.FromFn.{get_or-map-range_with_len}
use Rattle.std.specs.List.{range_with_len}
use Rattle.std.proofs.lemmas.Bool.{cases_lt, or_left}
use Rattle.std.proofs.lemmas.Bool.Decides.{nat_tests}
use Rattle.base.specs.declared.refusal.Refusal.TheVariants.{Limits, Crowded}
use Rattle.base.specs.Counts.{any_below, count_below, sum_below}
use Rattle.base.proofs.Counts.{count_same}
use Rattle.plan.specs.declared.kind.Kind.{Kind}
use Rattle.plan.specs.declared.kind.Kind.TheVariants.{Frozen, Information}
use Rattle.plan.specs.declared.mode.Mode.{Mode}
use Rattle.plan.specs.declared.request.Request.{Request}
use Rattle.plan.specs.Kinds.{is_information, is_parity, kind_by, open_count}
use Rattle.plan.specs.Laws.{Counted}
use Rattle.plan.specs.Order.{pattern, sent_by, barred_in}
use Rattle.plan.specs.Plans.{builtin_request}
use Rattle.plan.specs.Reliability.{weight, more_reliable}
use Rattle.plan.specs.Requests.{length_for, word_for, mode_for, barred_for, kind_for, within_limits, crowded, verdict}
use Rattle.plan.proofs.Ladder.{reliability-total}
use Rattle.plan.proofs.Ranks.{kinds-counted, kind-longer, open-longer, barred-frozen, beyond-frozen}
use Rattle.plan.proofs.Sent.{mode-bounded, sent-inside}

-- what the limits say of n
sized : (q : Request) → within_limits q ≡ true → (5 ≤ q.n) × (q.n ≤ 10)
sized q h = (grind (arith, nat_tests), grind (arith, nat_tests))

-- the invariant of a plan, of a table of kinds
pub record Lawful (q : Request) (kinds : List Kind) : Type 0 where
  pub informed : count_below (λ i. is_information (get_or kinds i Frozen)) (length_for q) ≡ word_for q
  pub checked : count_below (λ i. is_parity (get_or kinds i Frozen)) (length_for q) ≡ q.parity
  pub unbarred : (i : ℕ) → barred_for q i ≡ true → get_or kinds i Frozen ≡ Frozen
  pub beyond : (i : ℕ) → length_for q ≤ i → get_or kinds i Frozen ≡ Frozen

-- the kinds by rank are lawful where enough positions are open
pub lawful : (q : Request) (kinds : List Kind) → word_for q + q.parity ≤ open_count (barred_for q) (length_for q)
    → ((i : ℕ) → get_or kinds i Frozen ≡ kind_for q i) → Lawful q kinds
lawful q kinds enough by_rank =
    let counts : Counted more_reliable (barred_for q) (length_for q) (word_for q) q.parity =
    kinds-counted more_reliable reliability-total (barred_for q) (length_for q) (word_for q) q.parity enough in
    record {
      informed = count_same (λ i. is_information (get_or kinds i Frozen)) (λ i. is_information (kind_for q i)) (length_for q)
          (λ i l. ap is_information (by_rank i)) ∙ counts.informations;
      checked = count_same (λ i. is_parity (get_or kinds i Frozen)) (λ i. is_parity (kind_for q i)) (length_for q)
          (λ i l. ap is_parity (by_rank i)) ∙ counts.parities;
      unbarred = λ i h. by_rank i ∙ barred-frozen more_reliable (barred_for q) (length_for q) (word_for q) q.parity i h;
      beyond = λ i h. by_rank i ∙ beyond-frozen more_reliable (barred_for q) (length_for q) (word_for q) q.parity i h;
    }

pub verdict-within : (q : Request) (b : Bool) → within_limits q ≡ true → crowded q ≡ b → verdict q ≡ cond b (Some Crowded) None
verdict-within q b within h = ap₂ (λ w d. cond w (cond d (Some Crowded) None) (Some Limits)) within h

-- a request within its limits, its mode and marks
pub record Matched (q : Request) (mode : Mode) (marks : List Bool) : Type 0 where
  pub within : within_limits q ≡ true
  pub moded : mode ≡ mode_for q
  pub marked : (i : ℕ) → get_or marks i false ≡ sent_by mode q.n q.sent i

module _ (q : Request) (mode : Mode) (marks : List Bool) (h : Matched q mode marks) where
  barred-is : barred_in marks q.low ≡ barred_for q
  barred-is = fun_ext (λ i. ap (λ b. not b || ltb i q.low) (h.marked i ∙ ap (λ m. sent_by m q.n q.sent i) h.moded))

  barred-beyond : (i : ℕ) → length_for q ≤ i → barred_for q i ≡ true
  barred-beyond i l =
      or_left (not (sent_by (mode_for q) q.n q.sent i)) (ltb i q.low)
      (ap not (sent-inside (mode_for q) q.n q.sent (sized q h.within).0 (mode-bounded q.n (word_for q) q.sent) i l))

  whole : 1024 - length_for q + length_for q ≡ 1024
  whole = omega (arith, pow_mono (sized q h.within).1)

  -- the choice over all 1,024 positions is the choice over the block
  pub matched-kinds : (i : ℕ) → kind_by more_reliable (barred_in marks q.low) 1024 (word_for q) q.parity i ≡ kind_for q i
  matched-kinds i =
      ap (λ b. kind_by more_reliable b 1024 (word_for q) q.parity i) barred-is
      ∙ ap (λ n. kind_by more_reliable (barred_for q) n (word_for q) q.parity i) (sym whole)
      ∙ kind-longer more_reliable (barred_for q) (length_for q) (1024 - length_for q) (word_for q) q.parity barred-beyond i

  pub matched-open : open_count (barred_in marks q.low) 1024 ≡ open_count (barred_for q) (length_for q)
  matched-open =
      ap (λ b. open_count b 1024) barred-is
      ∙ ap (open_count (barred_for q)) (sym whole)
      ∙ open-longer (barred_for q) (length_for q) (1024 - length_for q) barred-beyond

-- the built-in plan's kinds
abbrev pub builtin_kinds : List Kind
builtin_kinds = set (replicate 1024 Frozen) 31 Information

-- the kinds of its block, by computing them
builtin-block : map (λ i. get_or builtin_kinds i Frozen) (range_with_len 0 32) ≡ map (kind_for builtin_request) (range_with_len 0 32)
unfolding any_below count_below sum_below pattern weight
builtin-block = refl

pub builtin-kinds : (i : ℕ) → get_or builtin_kinds i Frozen ≡ kind_for builtin_request i
builtin-kinds i =
    elim (cases_lt i 32) [
      | inl s ↦ sym (get_or-map-range_with_len (λ k. get_or builtin_kinds k Frozen) 0 32 i i Frozen s (zero-add i))
          ∙ ap (λ kinds. get_or kinds i Frozen) builtin-block
          ∙ get_or-map-range_with_len (kind_for builtin_request) 0 32 i i Frozen s (zero-add i)
      | inr s ↦ get_or-set_other (replicate 1024 Frozen) 31 i Information Frozen (λ e. omega arith) ∙ frozen i
          ∙ sym (beyond-frozen more_reliable (barred_for builtin_request) 32 1 0 i s)
    ]
  where
    frozen : (i : ℕ) → get_or (replicate 1024 Frozen) i Frozen ≡ Frozen
    frozen i = elim (cases_lt i 1024) [
      | inl s ↦ get_or-replicate 1024 i Frozen Frozen s
      | inr s ↦ get_or_past (replicate 1024 Frozen) i Frozen (subst (λ x. x ≤ i) (sym (length-replicate 1024 Frozen)) s)
    ]

builtin-open : 1 ≤ open_count (barred_for builtin_request) 32
unfolding any_below count_below pattern
builtin-open = lit≤ tt

pub builtin-lawful : Lawful builtin_request builtin_kinds
builtin-lawful = lawful builtin_request builtin_kinds builtin-open builtin-kinds
