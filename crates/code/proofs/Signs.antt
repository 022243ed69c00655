-- Sums of values that speak for one bit speak for it. Assumes nothing.
use Rattle.std.proofs.Common.{◌≡◌, ℕ, zero, suc, ◌<◌, Bool, true, false, cond, eqb, ℤ, pos, ◌+ℤ◌, ◌≤ℤ◌, sym, ap, ◌∙◌, subst, inl, inr, arith}
use Rattle.std.proofs.lemmas.Int.{ints}
use Rattle.std.proofs.lemmas.Bool.{cases_lt, cond_both, eqb-true}
use Rattle.base.proofs.Counts.{any_at}
use Rattle.plan.specs.Order.{sent_place}
use Rattle.plan.specs.Plans.{sent_bits, place_of, mode_in}
use Rattle.code.specs.Laws.{SpeaksFor, CleanSpeaks}
use Rattle.code.specs.Recovery.{total_below, share_of, unsent_soft}
use Rattle.code.proofs.Recovered.{placed-sent}

-- a value that does not speak against a bit
abbrev Leans : Bool → ℤ → Type 0
Leans false value = pos 0 ≤ℤ value
Leans true value = value ≤ℤ pos 0

leans-zero : (b : Bool) → Leans b (pos 0)
leans-zero false = omega (arith, ints)
leans-zero true = omega (arith, ints)

speaks-leans : (b : Bool) (x : ℤ) → SpeaksFor b x → Leans b x
speaks-leans false x h = omega (arith, ints)
speaks-leans true x h = omega (arith, ints)

leans-both : (b : Bool) (x y : ℤ) → Leans b x → Leans b y → Leans b (x +ℤ y)
leans-both false x y h k = omega (arith, ints)
leans-both true x y h k = omega (arith, ints)

speaks-first : (b : Bool) (x y : ℤ) → SpeaksFor b x → Leans b y → SpeaksFor b (x +ℤ y)
speaks-first false x y h k = omega (arith, ints)
speaks-first true x y h k = omega (arith, ints)

speaks-last : (b : Bool) (x y : ℤ) → Leans b x → SpeaksFor b y → SpeaksFor b (x +ℤ y)
speaks-last false x y h k = omega (arith, ints)
speaks-last true x y h k = omega (arith, ints)

total-leans : (b : Bool) (f : ℕ → ℤ) (n : ℕ) → ((k : ℕ) → k < n → Leans b (f k)) → Leans b (total_below f n)
unfolding total_below
total-leans b f zero h = leans-zero b
total-leans b f (suc n) h = leans-both b (total_below f n) (f n) (total-leans b f n (λ k l. h k (omega arith))) (h n (omega arith))

total-speaks : (b : Bool) (f : ℕ → ℤ) (n : ℕ) → ((k : ℕ) → k < n → Leans b (f k)) → (j : ℕ) → j < n → SpeaksFor b (f j) → SpeaksFor b (total_below f n)
unfolding total_below
total-speaks b f zero h j l s = absurd (omega arith)
total-speaks b f (suc n) h j l s =
    elim (cases_lt j n) [
      | inl m ↦ speaks-first b (total_below f n) (f n) (total-speaks b f n (λ k t. h k (omega arith)) j m s) (h n (omega arith))
      | inr g ↦
          (let e : j ≡ n = omega arith in
          speaks-last b (total_below f n) (f n) (total-leans b f n (λ k t. h k (omega arith))) (subst (λ (k : ℕ). SpeaksFor b (f k)) e s))
    ]

pub clean-speaks : CleanSpeaks
clean-speaks plan code values clean i sent =
    let b = code i in
    let mine : (k : ℕ) → k < sent_bits plan → eqb (place_of plan k) i ≡ true → SpeaksFor b (values k) =
    λ k l hit. subst (λ (m : ℕ). SpeaksFor (code m) (values k)) (eqb-true (place_of plan k) i hit) (clean k l) in
    let some = any_at (λ k. eqb (sent_place plan.mode plan.n plan.sent k) i) plan.sent sent in
    let hit : eqb (place_of plan some.0) i ≡ true = ap (λ (m : ℕ). eqb m i) (placed-sent plan some.0 some.1) ∙ some.2 in
    let whole : SpeaksFor b (total_below (share_of plan values i) (sent_bits plan)) =
    total-speaks b (share_of plan values i) (sent_bits plan)
    (λ k l. cond_both (eqb (place_of plan k) i) (values k) (pos 0) (Leans b) (λ h. speaks-leans b (values k) (mine k l h)) (λ _. leans-zero b))
    some.0 some.1
    (subst (λ (c : Bool). SpeaksFor b (cond c (values some.0) (pos 0))) (sym hit) (mine some.0 some.1 hit)) in
    subst (λ (c : Bool). SpeaksFor b (cond c (total_below (share_of plan values i) (sent_bits plan)) (unsent_soft (mode_in plan)))) (sym sent) whole
