-- What is proved of every order of places, every order of reliability and every plan, with the worked examples.
-- Assumes nothing.
use Rattle.std.specs.Prelude.{◌≡◌, ℕ, zero, suc, ◌+◌, ◌-◌, ◌^◌, ◌<◌, ◌≤◌, Bool, true, cond, List, [], ◌∷◌, ◌++◌, Some, None, ◌≢◌, nat_eq, nat_le, nat_lt}
use Rattle.base.specs.Counts.{count_below}
use Rattle.base.specs.Transform.{within}
use Rattle.base.specs.declared.refusal.Refusal.TheVariants.{Crowded}
use Rattle.plan.specs.declared.kind.Kind.TheVariants.{Frozen}
use Rattle.plan.specs.declared.mode.Mode.TheVariants.{Repeat, Puncture, Shorten}
use Rattle.plan.specs.declared.plan.Plan.{Plan}
use Rattle.plan.specs.declared.request.Request.{Request}
use Rattle.plan.specs.Kinds.{is_information, is_parity, kind_by, open_count}
use Rattle.plan.specs.Order.{order_at, mode_of, sent_by}
use Rattle.plan.specs.Plans.{log_length, block_length, word_bits, sent_bits, parity_bits, mode_in, kind_at, barred_at}
use Rattle.plan.specs.Reliability.{more_reliable, StrictTotal}
use Rattle.plan.specs.Requests.{kind_for, verdict}

-- the order holds places of the block, and each of them at exactly one index
pub record Permutes (n : ℕ) : Type 0 where
  pub inside : (k : ℕ) → k < 2 ^ n → order_at n k < 2 ^ n
  pub once : (i : ℕ) → i < 2 ^ n → count_below (λ k. nat_eq (order_at n k) i) (2 ^ n) ≡ 1

abbrev pub OrderPermutes : Type 0
OrderPermutes = (n : ℕ) → 5 ≤ n → n ≤ 10 → Permutes n

-- every other binary superset of a place stands later in the order
abbrev pub SupersetsLater : Type 0
SupersetsLater =
    (n : ℕ) → 5 ≤ n → n ≤ 10 → (k l : ℕ) → k < 2 ^ n → l < 2 ^ n
    → within (order_at n k) (order_at n l) ≡ true → (order_at n k ≢ order_at n l) → k < l

-- which places of a block of 2 ^ n are sent by E bits in each mode
pub record Unsent (n E : ℕ) : Type 0 where
  pub repeated : 2 ^ n ≤ E → (i : ℕ) → i < 2 ^ n → sent_by Repeat n E i ≡ true
  -- the first N - E of the order are not
  pub punctured : E < 2 ^ n → (k : ℕ) → k < 2 ^ n → sent_by Puncture n E (order_at n k) ≡ nat_le (2 ^ n - E) k
  -- those from E on are not
  pub shortened : E < 2 ^ n → (k : ℕ) → k < 2 ^ n → sent_by Shorten n E (order_at n k) ≡ nat_lt k E

abbrev pub UnsentPlaces : Type 0
UnsentPlaces = (n E : ℕ) → 5 ≤ n → n ≤ 10 → Unsent n E

abbrev pub ReliabilityTotal : Type 0
ReliabilityTotal = StrictTotal more_reliable

-- where K + p positions are not barred, exactly K are information and p parity, whatever the order of reliability
pub record Counted (above : ℕ → ℕ → Bool) (barred : ℕ → Bool) (N K p : ℕ) : Type 0 where
  pub informations : count_below (λ i. is_information (kind_by above barred N K p i)) N ≡ K
  pub parities : count_below (λ i. is_parity (kind_by above barred N K p i)) N ≡ p

abbrev pub KindsCounted : Type 0
KindsCounted =
    (above : ℕ → ℕ → Bool) → StrictTotal above → (barred : ℕ → Bool) (N K p : ℕ)
    → K + p ≤ open_count barred N → Counted above barred N K p

-- every plan that exists has exactly K information and p parity positions, none of them barred, and all else frozen
pub record LawfulPlan (plan : Plan) : Type 0 where
  pub informations : count_below (λ i. is_information (kind_at plan i)) (block_length plan) ≡ word_bits plan
  pub parities : count_below (λ i. is_parity (kind_at plan i)) (block_length plan) ≡ parity_bits plan
  pub unbarred : (i : ℕ) → barred_at plan i ≡ true → kind_at plan i ≡ Frozen
  pub beyond : (i : ℕ) → block_length plan ≤ i → kind_at plan i ≡ Frozen
  pub mode : mode_in plan ≡ mode_of (log_length plan) (word_bits plan) (sent_bits plan)

abbrev pub PlansLawful : Type 0
PlansLawful = (plan : Plan) → LawfulPlan plan

-- the numbers below n that have p, ascending
unfoldable pub list_below : (ℕ → Bool) → ℕ → List ℕ
list_below p zero = []
list_below p (suc n) = list_below p n ++ cond (p n) (n ∷ []) []

-- n 5, A 5, E 32, no check; t and p as given
abbrev pub five_of_32 : (t p : ℕ) → Request
five_of_32 t p = record { n = 5; payload = 5; sent = 32; low = t; parity = p; check_bits = 0; longest = 512 }

pub record FixedPoints : Type 0 where
  pub order-6 : order_at 6 6 ≡ 8
  pub order-7 : order_at 6 7 ≡ 9
  pub parities : list_below (λ i. is_parity (kind_for (five_of_32 0 3) i)) 32 ≡ 15 ∷ 26 ∷ 28 ∷ []
  pub informations : list_below (λ i. is_information (kind_for (five_of_32 0 3) i)) 32 ≡ 23 ∷ 27 ∷ 29 ∷ 30 ∷ 31 ∷ []
  pub punctures : mode_of 5 7 16 ≡ Puncture
  pub shortens : mode_of 5 8 18 ≡ Shorten
  pub low-27 : verdict (five_of_32 27 0) ≡ None
  pub low-28 : verdict (five_of_32 28 0) ≡ Some Crowded
