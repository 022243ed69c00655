-- Recovery: the soft value of each code place from the values received for it. Assumes nothing.
use Rattle.std.specs.Prelude.{◌≡◌, ℕ, zero, suc, ◌<◌, Bool, cond, ◌&&◌, ◌||◌, List, length, ℤ, pos, negsuc, ◌+ℤ◌, Some, None, Ok, Err, Option, Result, ◌==◌, int_lt, slice_index_or}
use Rattle.base.specs.declared.refusal.Refusal.{Refusal}
use Rattle.base.specs.declared.refusal.Refusal.TheVariants.{ReceivedLength, Value}
use Rattle.plan.specs.Plans.{block_length, sent_bits, mode_in, place_of, sent_at}
use Rattle.plan.specs.declared.mode.Mode.{Mode}
use Rattle.plan.specs.declared.mode.Mode.TheVariants.{Repeat, Puncture, Shorten}
use Rattle.plan.specs.declared.plan.Plan.{Plan}
use Rattle.code.specs.First.{first_below}

-- the sum of the first n numbers
unfoldable pub total_below : (ℕ → ℤ) → ℕ → ℤ
total_below f zero = pos 0
total_below f (suc n) = total_below f n +ℤ f n

abbrev pub value_at : List ℤ → ℕ → ℤ
value_at values k = slice_index_or values k (pos 0)

-- value k where it was sent for place i, else 0
abbrev pub share_of : Plan → (values : ℕ → ℤ) → (i k : ℕ) → ℤ
share_of plan values i k = cond (place_of plan k == i) (values k) (pos 0)

-- of a place that is not sent nothing is known if it was punctured; if it was shortened it is surely 0
abbrev pub unsent_soft : Mode → ℤ
unsent_soft Repeat = pos 0
unsent_soft Puncture = pos 0
unsent_soft Shorten = pos 1048576

-- the soft value at place i: the sum of the values sent for it
abbrev pub soft_at : Plan → (values : ℕ → ℤ) → ℕ → ℤ
soft_at plan values i = cond (sent_at plan i) (total_below (share_of plan values i) (sent_bits plan)) (unsent_soft (mode_in plan))

-- beyond −4,095 to 4,095
abbrev pub beyond : ℤ → Bool
beyond value = int_lt value (negsuc 4094) || int_lt (pos 4095) value

abbrev pub bad_value : Option ℕ → Option Refusal
bad_value (Some at) = Some (Value at)
bad_value None = None

-- what refuses the values and a buffer for a number of soft values, if anything does
abbrev pub recovery_verdict : Plan → (values : List ℤ) (room : ℕ) → Option Refusal
recovery_verdict plan values room =
    cond (length values == sent_bits plan && room == block_length plan)
    (bad_value (first_below (λ k. beyond (value_at values k)) (length values)))
    (Some ReceivedLength)

-- the buffer holds the soft value of every place
abbrev pub Recovered : Plan → (values llrs : List ℤ) → Type 0
Recovered plan values llrs = (i : ℕ) → i < block_length plan → value_at llrs i ≡ soft_at plan (value_at values) i

-- recovery: granted, or refused with the buffer as it was
abbrev pub Recovers : {X : Type 0} → Plan → (values before : List ℤ) → Result X Refusal → (after : List ℤ) → Type 0
Recovers plan values before (Ok done) after = (recovery_verdict plan values (length before) ≡ None) × Recovered plan values after
Recovers plan values before (Err refusal) after = (recovery_verdict plan values (length before) ≡ Some refusal) × (after ≡ before)
