-- A place is sent at most 256 times, so that no soft value leaves its limits. Assumes nothing.
use Rattle.std.proofs.Common.{◌≡◌, ℕ, zero, suc, ◌+◌, ◌-◌, ◌*◌, ◌%◌, ◌^◌, ◌<◌, ◌≤◌, Bool, true, false, cond, eqb, ◌⊎◌, ℤ, pos, sym, ap, ◌∙◌, inl, inr, mod-eq_of_lt, arith, pow_mono}
use native.Mathlib.Nat.{mul-add-mod_self_left}
use Rattle.std.proofs.lemmas.Int.{ints}
use Rattle.std.proofs.lemmas.Bool.{cond_both, eqb-true}
use Rattle.base.specs.Counts.{count_below}
use Rattle.base.proofs.Counts.{count_same, count-suc, count-zero, count-once}
use Rattle.plan.specs.Order.{order_at, sent_place}
use Rattle.plan.specs.Plans.{sent_bits, place_of, sent_at, mode_in}
use Rattle.plan.specs.declared.mode.Mode.{Mode}
use Rattle.plan.specs.declared.mode.Mode.TheVariants.{Repeat, Puncture, Shorten}
use Rattle.plan.proofs.Orders.{order-apart}
use Rattle.plan.proofs.Sent.{plan-bounded}
use Rattle.code.specs.Laws.{Soft, SoftBounded}
use Rattle.code.specs.Recovery.{total_below, share_of, unsent_soft}
use Rattle.code.proofs.Positions.{count-grows}
use Rattle.code.proofs.Recovered.{unsent-spans, placed-sent}
use Rattle.code.proofs.Totals.{Spans, within-spans, zero-spans, share}

-- values of which few are not 0
total-few : (places : ℕ → ℕ) (values : ℕ → ℤ) (i n : ℕ) → ((k : ℕ) → k < n → Spans 4095 (values k))
    → Spans (4095 * count_below (λ k. eqb (places k) i) n) (total_below (share places values i) n)
unfolding total_below
total-few places values i zero h =
    let none = count-zero (λ k. eqb (places k) i) in
    record { low = omega (arith, ints); high = omega (arith, ints) }
total-few places values i (suc n) h =
    let front = total-few places values i n (λ k l. h k (omega arith)) in
    let more = count-suc (λ k. eqb (places k) i) n in
    let last : Spans (4095 * cond (eqb (places n) i) 1 0) (share places values i n) =
    elim (eqb (places n) i) as (λ b. Spans (4095 * cond b 1 0) (cond b (values n) (pos 0))) [ true ↦ h n (omega arith) | false ↦ zero-spans 0 ] in
    record { low = omega (arith, ints); high = omega (arith, ints) }

count-plus : (p : ℕ → Bool) (m d : ℕ) → count_below p (m + d) ≡ count_below p m + count_below (λ j. p (m + j)) d
count-plus p m zero =
    let e : m + 0 ≡ m = omega arith in
    let none = count-zero (λ j. p (m + j)) in
    rw e (omega arith)
count-plus p m (suc d) =
    let e : m + suc d ≡ suc (m + d) = omega arith in
    let front = count-plus p m d in
    let one = count-suc p (m + d) in
    let other = count-suc (λ j. p (m + j)) d in
    rw e (omega arith)

module _ (n : ℕ) (least : 5 ≤ n) (i : ℕ) where
  apart : (k l : ℕ) → k < 2 ^ n → l < 2 ^ n → eqb (order_at n k) i ≡ true → eqb (order_at n l) i ≡ true → k ≡ l
  apart k l hk hl a b = order-apart n least k l hk hl (eqb-true (order_at n k) i a ∙ sym (eqb-true (order_at n l) i b))

  abbrev turned : ℕ → Bool
  turned k = eqb (order_at n (k % 2 ^ n)) i

  -- each round of the order sends a place once
  rounds : (q : ℕ) → count_below turned (2 ^ n * q) ≤ q
  rounds zero =
      let none : 2 ^ n * 0 ≡ 0 = omega arith in
      let start = count-zero turned in
      rw none (omega arith)
  rounds (suc q) =
      let e : 2 ^ n * suc q ≡ 2 ^ n * q + 2 ^ n = omega arith in
      let split = count-plus turned (2 ^ n * q) (2 ^ n) in
      let front = rounds q in
      let back : (j : ℕ) → j < 2 ^ n → (2 ^ n * q + j) % 2 ^ n ≡ j = λ j l. mul-add-mod_self_left (2 ^ n) q j ∙ mod-eq_of_lt l in
      let once : count_below (λ j. turned (2 ^ n * q + j)) (2 ^ n) ≤ 1 =
      count-once (λ j. turned (2 ^ n * q + j)) (2 ^ n)
      (λ k l hk hl a b. apart k l hk hl
      (sym (ap (λ (m : ℕ). eqb (order_at n m) i) (back k hk)) ∙ a) (sym (ap (λ (m : ℕ). eqb (order_at n m) i) (back l hl)) ∙ b)) in
      rw e (omega arith)

  few : (mode : Mode) (E : ℕ) → E ≤ 8192 → (mode ≡ Repeat) ⊎ (E ≤ 2 ^ n) → count_below (λ k. eqb (sent_place mode n E k) i) E ≤ 256
  few Repeat E most bounded =
      let big : 2 ^ 5 ≤ 2 ^ n = pow_mono least in
      let grows = count-grows turned E (2 ^ n * 256 - E) in
      let e : E + (2 ^ n * 256 - E) ≡ 2 ^ n * 256 = omega arith in
      let all = rounds 256 in
      let same : count_below turned (E + (2 ^ n * 256 - E)) ≡ count_below turned (2 ^ n * 256) = ap (count_below turned) e in
      omega arith
  few Puncture E most (inl h) = absurd (let z : ◌≡◌ {A = ℕ} 0 1 = cc in omega arith)
  few Puncture E most (inr h) =
      let once : count_below (λ k. eqb (order_at n (k + 2 ^ n - E)) i) E ≤ 1 =
      count-once (λ k. eqb (order_at n (k + 2 ^ n - E)) i) E
      (λ k l hk hl a b. let e : k + 2 ^ n - E ≡ l + 2 ^ n - E = apart (k + 2 ^ n - E) (l + 2 ^ n - E) (omega arith) (omega arith) a b in omega arith) in
      omega arith
  few Shorten E most (inl h) = absurd (let z : ◌≡◌ {A = ℕ} 0 1 = cc in omega arith)
  few Shorten E most (inr h) =
      let once : count_below (λ k. eqb (order_at n k) i) E ≤ 1 = count-once (λ k. eqb (order_at n k) i) E (λ k l hk hl a b. apart k l (omega arith) (omega arith) a b) in
      omega arith

spans-soft : (z : ℤ) (m : ℕ) → m ≤ 1048576 → Spans m z → Soft z
spans-soft z m l s =
    let low = s.low in
    let high = s.high in
    record { low = omega (arith, ints); high = omega (arith, ints) }

pub soft-bounded : SoftBounded
soft-bounded plan values within i =
    let times = count_below (λ k. eqb (place_of plan k) i) (sent_bits plan) in
    let same : times ≡ count_below (λ k. eqb (sent_place plan.mode plan.n plan.sent k) i) plan.sent =
    count_same (λ k. eqb (place_of plan k) i) (λ k. eqb (sent_place plan.mode plan.n plan.sent k) i) plan.sent
    (λ k l. ap (λ (m : ℕ). eqb m i) (placed-sent plan k l)) in
    let most = few plan.n plan.sized.0 i plan.mode plan.sent plan.aired.1 (plan-bounded plan) in
    let total : Spans (4095 * times) (total_below (share_of plan values i) (sent_bits plan)) =
    total-few (place_of plan) values i (sent_bits plan) (λ k l. within-spans (values k) (within k l)) in
    cond_both (sent_at plan i) (total_below (share_of plan values i) (sent_bits plan)) (unsent_soft (mode_in plan)) Soft
    (λ _. spans-soft (total_below (share_of plan values i) (sent_bits plan)) (4095 * times) (omega arith) total)
    (λ _. spans-soft (unsent_soft (mode_in plan)) 1048576 (omega arith) (unsent-spans (mode_in plan)))
