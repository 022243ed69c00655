-- Which places are sent in each mode, and the marks of a loop over the sent bits. Assumes nothing.
use Rattle.std.proofs.Common.{◌≡◌, ℕ, ◌+◌, ◌-◌, ◌*◌, ◌%◌, ◌^◌, ◌<◌, ◌≤◌, Bool, true, false, cond, ◌||◌, eqb, leb, ◌⊎◌, List, length, get_or, set, replicate, sym, refl, ap, ◌∙◌, subst, inl, inr, mod-eq_of_lt, add-one, arith, length-set}
use Rattle.std.proofs.Math.Bool.{or-false}
use Rattle.std.proofs.lemmas.Nat.{pow_pos, mod_below}
use Rattle.std.proofs.lemmas.List.{get_or-set_same, get_or-set_other, get_or-replicate, get_or_past, length-replicate}
use Rattle.std.proofs.lemmas.Bool.{cases_Bool, cases_eq, cases_lt, eq-eqb, ne_eqb, leb-true, leb-false, lt-ltb, le-ltb, or_right}
use Rattle.std.proofs.lemmas.Bool.Decides.{nat_tests}
use Rattle.base.specs.Counts.{any_below}
use Rattle.base.proofs.Counts.{any-from, any_none}
use Rattle.plan.specs.declared.mode.Mode.{Mode}
use Rattle.plan.specs.declared.mode.Mode.TheVariants.{Repeat, Puncture, Shorten}
use Rattle.plan.specs.declared.plan.Plan.{Plan}
use Rattle.plan.specs.Laws.{UnsentPlaces}
use Rattle.plan.specs.Order.{order_at, mode_of, sent_place, sent_by}
use Rattle.plan.proofs.Orders.{order-inside, order-apart, order-onto}

-- a number below n is no place of another index
other_place : (n : ℕ) → 5 ≤ n → (k l : ℕ) → k < 2 ^ n → l < 2 ^ n → (k ≡ l → ⊥) → eqb (order_at n k) (order_at n l) ≡ false
other_place n least k l hk hl other = ne_eqb (order_at n k) (order_at n l) (λ e. other (order-apart n least k l hk hl e))

pub unsent-places : UnsentPlaces
unsent-places n E least most = record {
  repeated = λ enough i l. let at = order-onto n least i l in
      any-from (λ k. eqb (sent_place Repeat n E k) i) E at.0 (omega (arith, at.1))
      (eq-eqb (sent_place Repeat n E at.0) i (ap (order_at n) (mod-eq_of_lt at.1) ∙ at.2));
  punctured = λ few k l. elim (cases_Bool (leb (2 ^ n - E) k)) [
    | inl s ↦ (let later : 2 ^ n - E ≤ k = leb-true (2 ^ n - E) k s in
        let back : k - (2 ^ n - E) + 2 ^ n - E ≡ k = omega arith in
        any-from (λ j. eqb (sent_place Puncture n E j) (order_at n k)) E (k - (2 ^ n - E)) (omega arith)
        (eq-eqb (sent_place Puncture n E (k - (2 ^ n - E))) (order_at n k) (ap (order_at n) back)) ∙ sym s)
    | inr s ↦ (let earlier : k < 2 ^ n - E = leb-false (2 ^ n - E) k s in
        any_none (λ j. eqb (sent_place Puncture n E j) (order_at n k)) E
        (λ j m. other_place n least (j + 2 ^ n - E) k (omega arith) l (omega arith)) ∙ sym s)
  ];
  shortened = λ few k l. elim (cases_lt k E) [
    | inl s ↦ any-from (λ j. eqb (sent_place Shorten n E j) (order_at n k)) E k s (eq-eqb (order_at n k) (order_at n k) refl) ∙ sym (lt-ltb k E s)
    | inr s ↦ any_none (λ j. eqb (sent_place Shorten n E j) (order_at n k)) E
        (λ j m. other_place n least j k (omega arith) l (omega arith)) ∙ sym (le-ltb k E s)
  ];
}

-- in a mode other than repeat no more than N bits are sent
pub mode-bounded : (n K E : ℕ) → (mode_of n K E ≡ Repeat) ⊎ (E ≤ 2 ^ n)
mode-bounded n K E =
    elim (cases_Bool (leb (2 ^ n) E)) [
      | inl s ↦ inl (ap (λ b. cond b Repeat (cond (leb (16 * K) (7 * E)) Puncture Shorten)) s)
      | inr s ↦ inr (omega (arith, leb-false (2 ^ n) E s))
    ]

pub mode-many : (n K E : ℕ) → mode_of n K E ≡ Repeat → 2 ^ n ≤ E
mode-many n K E h = grind (arith, nat_tests)

pub mode-few : (n K E : ℕ) → (mode_of n K E ≡ Repeat → ⊥) → E < 2 ^ n
mode-few n K E h = grind (arith, nat_tests)

-- so it is of every plan
pub plan-bounded : (plan : Plan) → (plan.mode ≡ Repeat) ⊎ (plan.sent ≤ 2 ^ plan.n)
plan-bounded plan =
    subst (λ m. (m ≡ Repeat) ⊎ (plan.sent ≤ 2 ^ plan.n)) (sym plan.moded)
    (mode-bounded plan.n (plan.payload + plan.check_bits) plan.sent)

pub place_inside : (mode : Mode) (n E k : ℕ) → 5 ≤ n → (mode ≡ Repeat) ⊎ (E ≤ 2 ^ n) → k < E → sent_place mode n E k < 2 ^ n
place_inside Repeat n E k least b l = order-inside n least (k % 2 ^ n) (mod_below k (2 ^ n) (pow_pos n))
place_inside Puncture n E k least b l = order-inside n least (k + 2 ^ n - E) (elim b [ inl s ↦ cc | inr s ↦ omega arith ])
place_inside Shorten n E k least b l = order-inside n least k (elim b [ inl s ↦ cc | inr s ↦ omega arith ])

-- nothing beyond the block is sent
pub sent-inside : (mode : Mode) (n E : ℕ) → 5 ≤ n → (mode ≡ Repeat) ⊎ (E ≤ 2 ^ n) → (i : ℕ) → 2 ^ n ≤ i → sent_by mode n E i ≡ false
sent-inside mode n E least b i beyond =
    any_none (λ k. eqb (sent_place mode n E k) i) E
    (λ k l. ne_eqb (sent_place mode n E k) i (λ e. omega (arith, place_inside mode n E k least b l)))

-- marks after the first k sent bits
pub record Marked (places : ℕ → ℕ) (k : ℕ) (marks : List Bool) : Type 0 where
  pub size : length marks ≡ 1024
  pub at : (i : ℕ) → get_or marks i false ≡ any_below (λ j. eqb (places j) i) k

pub marked-none : (places : ℕ → ℕ) → Marked places 0 (replicate 1024 false)
unfolding any_below
marked-none places = record {
  size = length-replicate 1024 false;
  at = λ i. elim (cases_lt i 1024) [
    | inl s ↦ get_or-replicate 1024 i false false s
    | inr s ↦ get_or_past (replicate 1024 false) i false (subst (λ x. x ≤ i) (sym (length-replicate 1024 false)) s)
  ];
}

pub marked_more : (places : ℕ → ℕ) (k : ℕ) (marks : List Bool) → places k < 1024 → Marked places k marks
    → Marked places (k + 1) (set marks (places k) true)
unfolding any_below
marked_more places k marks l h = record {
  size = length-set marks (places k) true ∙ h.size;
  at = λ i. rw add-one (elim (cases_eq i (places k)) [
    | inl s ↦ ap (λ x. get_or (set marks (places k) true) x false) s
        ∙ get_or-set_same marks (places k) true false (subst (λ x. places k < x) (sym h.size) l)
        ∙ sym (or_right (any_below (λ j. eqb (places j) i) k) (eqb (places k) i) (eq-eqb (places k) i (sym s)))
    | inr s ↦ get_or-set_other marks (places k) i true false s ∙ h.at i
        ∙ sym (ap (λ b. any_below (λ j. eqb (places j) i) k || b) (ne_eqb (places k) i (λ e. s (sym e))) ∙ or-false (any_below (λ j. eqb (places j) i) k))
  ]);
}
