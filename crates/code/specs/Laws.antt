-- What is proved of laid words and of recovery. Assumes nothing.
use Rattle.std.specs.Prelude.{◌≡◌, ℕ, ◌<◌, Bool, true, false, ℤ, pos, negsuc, ◌≤ℤ◌, ◌<ℤ◌}
use Rattle.plan.specs.Plans.{kind_at, block_length, sent_bits, place_of, sent_at}
use Rattle.plan.specs.declared.plan.Plan.{Plan}
use Rattle.code.specs.Lawful.{Lawful}
use Rattle.code.specs.Laying.{plan_of, laid_at}
use Rattle.code.specs.Recovery.{soft_at, beyond}
use Rattle.code.specs.declared.laid.Laid.{Laid}

-- every laid word, fresh or filled, obeys its plan
abbrev pub LaidLawful : Type 0
LaidLawful = (word : Laid) → Lawful (kind_at (plan_of word)) (block_length (plan_of word)) (laid_at word)

-- a value above 0 speaks for bit 0, one below 0 for bit 1
abbrev pub SpeaksFor : Bool → ℤ → Type 0
SpeaksFor false value = pos 0 <ℤ value
SpeaksFor true value = value <ℤ pos 0

-- every sent bit arrives with its own sign, and none as 0
abbrev pub Clean : Plan → (code : ℕ → Bool) (values : ℕ → ℤ) → Type 0
Clean plan code values = (k : ℕ) → k < sent_bits plan → SpeaksFor (code (place_of plan k)) (values k)

-- what is recovered from clean values speaks for the code bit of every sent place
abbrev pub CleanSpeaks : Type 0
CleanSpeaks =
    (plan : Plan) (code : ℕ → Bool) (values : ℕ → ℤ) → Clean plan code values
    → (i : ℕ) → sent_at plan i ≡ true → SpeaksFor (code i) (soft_at plan values i)

-- from −1,048,576 to 1,048,576
pub record Soft (value : ℤ) : Type 0 where
  pub low : negsuc 1048575 ≤ℤ value
  pub high : value ≤ℤ pos 1048576

-- what is recovered from values within their limits is within the limits of soft values
abbrev pub SoftBounded : Type 0
SoftBounded =
    (plan : Plan) (values : ℕ → ℤ) → ((k : ℕ) → k < sent_bits plan → beyond (values k) ≡ false) → (i : ℕ) → Soft (soft_at plan values i)
