-- From sums over the sent bits to the soft values of a plan. Assumes nothing.
use Rattle.std.proofs.Common.{◌≡◌, ℕ, ◌+◌, ◌<◌, Bool, true, false, cond, ◌&&◌, eqb, List, length, ℤ, pos, ◌+ℤ◌, Some, None, sym, ap, ◌∙◌, subst, inl, inr, arith, lit<, w32, SFits, to_z, of_z}
use lib.IntN.{+ℤ_idl, +ℤ_idr}
use Rattle.std.proofs.lemmas.Int.{ints, to_z-of_z}
use Rattle.std.proofs.lemmas.Bool.{and_from, cases_Bool, cond-true, eq-eqb, lt-ltb}
use Rattle.base.specs.declared.refusal.Refusal.TheVariants.{ReceivedLength}
use Rattle.base.proofs.Counts.{any-absent}
use Rattle.plan.specs.Order.{sent_place}
use Rattle.plan.specs.Plans.{block_length, sent_bits, mode_in, place_of, sent_at}
use Rattle.plan.specs.declared.mode.Mode.{Mode}
use Rattle.plan.specs.declared.mode.Mode.TheVariants.{Repeat, Puncture, Shorten}
use Rattle.plan.specs.declared.plan.Plan.{Plan}
use Rattle.code.specs.First.{first_below}
use Rattle.code.specs.Recovery.{total_below, value_at, share_of, soft_at, unsent_soft, beyond, bad_value, recovery_verdict}
use Rattle.code.proofs.First.{first_absent}
use Rattle.code.proofs.Totals.{Spans, Added, zero-spans, within-spans, spans-fits, total-none, added-fits, sum-read}

pub unsent-spans : (m : Mode) → Spans 1048576 (unsent_soft m)
unsent-spans Repeat = zero-spans 1048576
unsent-spans Puncture = zero-spans 1048576
unsent-spans Shorten = record { low = omega (arith, ints); high = omega (arith, ints) }

pub start-spans : (b : Bool) (m : Mode) → Spans 1048576 (cond b (pos 0) (unsent_soft m))
start-spans true m = zero-spans 1048576
start-spans false m = unsent-spans m

-- the place of a bit that is sent
pub placed-sent : (plan : Plan) (k : ℕ) → k < sent_bits plan → place_of plan k ≡ sent_place plan.mode plan.n plan.sent k
placed-sent plan k l = ap (λ (b : Bool). cond b (sent_place plan.mode plan.n plan.sent k) 0) (lt-ltb k plan.sent l)

-- for a place that is not sent nothing is added
unsent-share : (plan : Plan) (values : ℕ → ℤ) (i : ℕ) → sent_at plan i ≡ false → (k : ℕ) → k < sent_bits plan → share_of plan values i k ≡ pos 0
unsent-share plan values i none k l =
    let miss : eqb (place_of plan k) i ≡ false =
    ap (λ (m : ℕ). eqb m i) (placed-sent plan k l) ∙ any-absent (λ j. eqb (sent_place plan.mode plan.n plan.sent j) i) plan.sent none k l in
    ap (λ (b : Bool). cond b (values k) (pos 0)) miss

pub soft-from : (plan : Plan) (values : ℕ → ℤ) (i n : ℕ) (start x : ℤ) → n ≡ sent_bits plan
    → start ≡ cond (sent_at plan i) (pos 0) (unsent_soft (mode_in plan)) → x ≡ start +ℤ total_below (share_of plan values i) n → x ≡ soft_at plan values i
soft-from plan values i n start x whole begun added =
    let total = total_below (share_of plan values i) (sent_bits plan) in
    let rest = unsent_soft (mode_in plan) in
    added
    ∙ ap (λ (m : ℕ). start +ℤ total_below (share_of plan values i) m) whole
    ∙ ap (λ (z : ℤ). z +ℤ total) begun
    ∙ elim (cases_Bool (sent_at plan i)) [
      | inl s ↦ ap (λ (b : Bool). cond b (pos 0) rest +ℤ total) s ∙ +ℤ_idl total ∙ sym (ap (λ (b : Bool). cond b total rest) s)
      | inr s ↦
          let none : total ≡ pos 0 = total-none (share_of plan values i) (sent_bits plan) (unsent-share plan values i s) in
          ap (λ (b : Bool). cond b (pos 0) rest +ℤ total) s ∙ ap (λ (z : ℤ). rest +ℤ z) none ∙ +ℤ_idr rest ∙ sym (ap (λ (b : Bool). cond b total rest) s)
    ]

pub verdict-none : (plan : Plan) (values : List ℤ) (room : ℕ) → length values ≡ sent_bits plan → room ≡ block_length plan
    → first_below (λ k. beyond (value_at values k)) (length values) ≡ None → recovery_verdict plan values room ≡ None
verdict-none plan values room sent block none =
    cond-true (eqb (length values) (sent_bits plan) && eqb room (block_length plan))
    (bad_value (first_below (λ k. beyond (value_at values k)) (length values))) (Some ReceivedLength)
    (and_from (eqb (length values) (sent_bits plan)) (eqb room (block_length plan)) (eq-eqb (length values) (sent_bits plan) sent) (eq-eqb room (block_length plan) block))
    ∙ ap bad_value none

-- one turn of the addition: the code's sum, through the bits of its parts, fits and is the sum
pub record Turn (llr value read : ℤ) : Type 0 where
  pub fits : SFits w32 (to_z w32 (of_z w32 llr) +ℤ to_z w32 (of_z w32 read))
  pub sum : to_z w32 (of_z w32 (to_z w32 (of_z w32 llr) +ℤ to_z w32 (of_z w32 read))) ≡ llr +ℤ value

pub turn : (plan : Plan) (values start llrs : List ℤ) (k p : ℕ) → Added (place_of plan) (value_at values) start k llrs → p < length start
    → ((i : ℕ) → i < length start → value_at start i ≡ cond (sent_at plan i) (pos 0) (unsent_soft (mode_in plan)))
    → first_below (λ j. beyond (value_at values j)) (length values) ≡ None → k < length values → length values ≡ sent_bits plan
    → SFits w32 (value_at llrs p) → (read : ℤ) → read ≡ value_at values k → Turn (value_at llrs p) (value_at values k) read
turn plan values start llrs k p added inside begun none l sent fl read is =
    let few = plan.aired in
    let first : Spans 1048576 (value_at start p) = subst (Spans 1048576) (sym (begun p inside)) (start-spans (sent_at plan p) (mode_in plan)) in
    let small : (j : ℕ) → j < k + 1 → Spans 4095 (value_at values j) =
    λ j m. within-spans (value_at values j) (first_absent (λ j. beyond (value_at values j)) (length values) none j (omega arith)) in
    let fw : SFits w32 (value_at values k) = spans-fits (value_at values k) 4095 (small k (omega arith)) (lit< tt) in
    let sum = sum-read (value_at llrs p) (value_at values k) read is fl fw in
    let whole : SFits w32 (value_at llrs p +ℤ value_at values k) = added-fits (place_of plan) (value_at values) start k p llrs added inside first small (omega arith) in
    let fits = subst (SFits w32) (sym sum) whole in
    record { fits = fits; sum = to_z-of_z w32 _ fits ∙ sum }
