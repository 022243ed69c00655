-- What is not sent: its binary subsets and supersets, the code bits there, and the soft values recovered for it.
-- Assumes nothing.
use Rattle.std.proofs.Common.{◌≡◌, ℕ, ◌-◌, ◌^◌, ◌<◌, ◌≤◌, Bool, true, false, not, ◌&&◌, ltb, List, ℤ, pos, negsuc, sym, refl, ap, ◌∙◌, subst, ap₂, inl, inr, arith}
use Rattle.std.proofs.lemmas.Int.{ints}
use Rattle.std.proofs.lemmas.Bool.{both_ways, cases_Bool, cases_eq, cond-false, ltb-false, leb-false, le-ltb, lt-leb, and_left, and_right, or_left, not_from_false}
use Rattle.base.specs.Transform.{within}
use Rattle.base.proofs.Transform.{xor-below-none}
use Rattle.code.specs.Laying.{word_bit_at, bit_of_kind, laid_bit}
use Rattle.code.specs.Lawful.{FrozenZero, parity_sum}
use Rattle.code.specs.Laws.{SpeaksFor, Clean}
use Rattle.code.specs.Recovery.{total_below, share_of, unsent_soft, soft_at}
use Rattle.code.proofs.Signs.{clean-speaks}
use Rattle.cost.specs.Laws.{ZerosClosed}
use Rattle.cost.specs.Values.{contradicts}
use Rattle.plan.specs.Order.{order_at, sent_by}
use Rattle.plan.specs.Plans.{log_length, block_length, word_bits, sent_bits, low_bound, mode_in, kind_at, sent_at}
use Rattle.plan.specs.declared.kind.Kind.TheVariants.{Frozen, Information}
use Rattle.plan.specs.declared.mode.Mode.{Mode}
use Rattle.plan.specs.declared.mode.Mode.TheVariants.{Repeat, Puncture, Shorten}
use Rattle.plan.specs.declared.plan.Plan.{Plan}
use Rattle.plan.proofs.Orders.{order-apart, order-onto, supersets-later}
use Rattle.plan.proofs.Sent.{unsent-places, mode-many, mode-few}
use Rattle.clean.specs.Laws.{ShortenedPlacesCarryZero}
use Rattle.clean.specs.Received.{code_of}

-- Subsets and supersets

module _ (n E : ℕ) (least : 5 ≤ n) (most : n ≤ 10) where
  not_earlier : (k l : ℕ) → k < 2 ^ n → l < 2 ^ n → within (order_at n k) (order_at n l) ≡ true → k ≤ l
  not_earlier k l hk hl sub =
      elim (cases_eq (order_at n k) (order_at n l)) [
        | inl e ↦ (let same : k ≡ l = order-apart n least k l hk hl e in omega arith)
        | inr ne ↦ (let later : k < l = supersets-later n least most k l hk hl sub ne in omega arith)
      ]

  pub shortened-upward : E < 2 ^ n → (i j : ℕ) → i < 2 ^ n → j < 2 ^ n → within i j ≡ true → sent_by Shorten n E i ≡ false → sent_by Shorten n E j ≡ false
  shortened-upward few i j hi hj sub unsent =
      let (k, hk, ek) = order-onto n least i hi in
      let (l, hl, el) = order-onto n least j hj in
      let places = (unsent-places n E least most).shortened few in
      let after : k ≤ l = not_earlier k l hk hl (ap₂ within ek el ∙ sub) in
      let out : E ≤ k = ltb-false k E (sym (places k hk) ∙ ap (sent_by Shorten n E) ek ∙ unsent) in
      sym (ap (sent_by Shorten n E) el) ∙ places l hl ∙ le-ltb l E (omega arith)

  pub punctured-downward : E < 2 ^ n → (i j : ℕ) → i < 2 ^ n → j < 2 ^ n → within i j ≡ true → sent_by Puncture n E j ≡ false → sent_by Puncture n E i ≡ false
  punctured-downward few i j hi hj sub unsent =
      let (k, hk, ek) = order-onto n least i hi in
      let (l, hl, el) = order-onto n least j hj in
      let places = (unsent-places n E least most).punctured few in
      let after : k ≤ l = not_earlier k l hk hl (ap₂ within ek el ∙ sub) in
      let out : l < 2 ^ n - E = leb-false (2 ^ n - E) l (sym (places l hl) ∙ ap (sent_by Puncture n E) el ∙ unsent) in
      sym (ap (sent_by Puncture n E) ek) ∙ places k hk ∙ lt-leb (2 ^ n - E) k (omega arith)

-- Unsent places of a plan

module _ (plan : Plan) where
  few-sent : (plan.mode ≡ Repeat → ⊥) → sent_bits plan < block_length plan
  few-sent h = mode-few (log_length plan) (word_bits plan) (sent_bits plan) (λ e. h (plan.moded ∙ e))

  unsent-frozen : (i : ℕ) → sent_at plan i ≡ false → kind_at plan i ≡ Frozen
  unsent-frozen i h = plan.unbarred i (or_left (not (sent_at plan i)) (ltb i (low_bound plan)) (not_from_false (sent_at plan i) h))

  in-mode : {m : Mode} (i : ℕ) {b : Bool} → plan.mode ≡ m → sent_by m (log_length plan) (sent_bits plan) i ≡ b → sent_at plan i ≡ b
  in-mode i {b} e h = subst (λ x. sent_by x (log_length plan) (sent_bits plan) i ≡ b) (sym e) h

  by_mode : {m : Mode} (i : ℕ) {b : Bool} → plan.mode ≡ m → sent_at plan i ≡ b → sent_by m (log_length plan) (sent_bits plan) i ≡ b
  by_mode i {b} e h = subst (λ x. sent_by x (log_length plan) (sent_bits plan) i ≡ b) e h

pub shortened-zero : ShortenedPlacesCarryZero
shortened-zero plan u frozen mode i hi unsent =
    xor-below-none (λ j. within i j && u j) (block_length plan) (λ j hj. elim (cases_Bool (within i j)) [
      | inl sub ↦ and_right (within i j) (u j) (frozen j hj (unsent-frozen plan j (above j hj sub)))
      | inr apart ↦ and_left (within i j) (u j) apart
    ])
  where
    few : sent_bits plan < block_length plan
    few = few-sent plan (λ e. let z : ◌≡◌ {A = ℕ} 0 1 = cc in omega arith)

    above : (j : ℕ) → j < block_length plan → within i j ≡ true → sent_at plan j ≡ false
    above j hj sub = in-mode plan j mode (shortened-upward (log_length plan) (sent_bits plan) plan.sized.0 plan.sized.1 few i j hi hj sub (by_mode plan i mode unsent))

laid-frozen : (plan : Plan) (word : List Bool) → FrozenZero (kind_at plan) (block_length plan) (laid_bit (kind_at plan) word)
laid-frozen plan word i h e = ap (λ k. bit_of_kind k (word_bit_at (kind_at plan) word i) (parity_sum (kind_at plan) (word_bit_at (kind_at plan) word) i)) e

-- Soft values

speaks-silent : (b : Bool) (v : ℤ) → SpeaksFor b v → contradicts v b ≡ 0
speaks-silent false (pos a) h = refl
speaks-silent false (negsuc a) h = absurd (omega (arith, ints))
speaks-silent true (pos a) h = absurd (omega (arith, ints))
speaks-silent true (negsuc a) h = refl

speaks-something : (b : Bool) (v : ℤ) → SpeaksFor b v → v ≡ pos 0 → ⊥
speaks-something false v h e = omega (arith, ints)
speaks-something true v h e = omega (arith, ints)

zero-silent : (b : Bool) → contradicts (pos 0) b ≡ 0
zero-silent true = refl
zero-silent false = refl

module _ (plan : Plan) (word : List Bool) (values : ℕ → ℤ) (clean : Clean plan (code_of plan word) values) where
  unsent-soft : (i : ℕ) → sent_at plan i ≡ false → soft_at plan values i ≡ unsent_soft (mode_in plan)
  unsent-soft i h = cond-false (sent_at plan i) (total_below (share_of plan values i) (sent_bits plan)) (unsent_soft (mode_in plan)) h

  -- the codeword contradicts nothing
  pub soft-silent : (i : ℕ) → i < block_length plan → contradicts (soft_at plan values i) (code_of plan word i) ≡ 0
  soft-silent i hi =
      elim (cases_Bool (sent_at plan i)) [
        | inl sent ↦ speaks-silent (code_of plan word i) (soft_at plan values i) (clean-speaks plan (code_of plan word) values clean i sent)
        | inr unsent ↦ ap (λ v. contradicts v (code_of plan word i)) (unsent-soft i unsent) ∙ go unsent plan.mode refl
      ]
    where
      go : sent_at plan i ≡ false → (m : Mode) → plan.mode ≡ m → contradicts (unsent_soft m) (code_of plan word i) ≡ 0
      go unsent Repeat e = zero-silent (code_of plan word i)
      go unsent Puncture e = zero-silent (code_of plan word i)
      go unsent Shorten e = ap (contradicts (pos 1048576)) (shortened-zero plan (laid_bit (kind_at plan) word) (laid-frozen plan word) e i hi unsent)

  zero-unsent : (i : ℕ) → soft_at plan values i ≡ pos 0 → sent_at plan i ≡ false
  zero-unsent i z =
      elim (cases_Bool (sent_at plan i)) [
        | inl sent ↦ absurd (speaks-something (code_of plan word i) (soft_at plan values i) (clean-speaks plan (code_of plan word) values clean i sent) z)
        | inr unsent ↦ unsent
      ]

  pub information-heard : (i : ℕ) → kind_at plan i ≡ Information → soft_at plan values i ≡ pos 0 → ⊥
  information-heard i kind z = let frozen = unsent-frozen plan i (zero-unsent i z) in let no : ◌≡◌ {A = ℕ} 0 1 = cc in omega arith

  pub soft-closed : ZerosClosed (log_length plan) (soft_at plan values)
  soft-closed i j hi hj sub z = go plan.mode refl
    where
      unsent : sent_at plan j ≡ false
      unsent = zero-unsent j z

      go : (m : Mode) → plan.mode ≡ m → soft_at plan values i ≡ pos 0
      go Repeat e =
          let all = (unsent-places (log_length plan) (sent_bits plan) plan.sized.0 plan.sized.1).repeated in
          let many = mode-many (log_length plan) (word_bits plan) (sent_bits plan) (sym plan.moded ∙ e) in
          absurd (both_ways (sent_at plan j) unsent (in-mode plan j e (all many j hj)))
      go Puncture e =
          let few = few-sent plan (λ r. let no : ◌≡◌ {A = ℕ} 0 1 = cc in omega arith) in
          let below = punctured-downward (log_length plan) (sent_bits plan) plan.sized.0 plan.sized.1 few i j hi hj sub (by_mode plan j e unsent) in
          unsent-soft i (in-mode plan i e below) ∙ ap unsent_soft e
      go Shorten e =
          let sure : pos 1048576 ≡ pos 0 = sym (unsent-soft j unsent ∙ ap unsent_soft e) ∙ z in
          absurd (omega (arith, ints))
