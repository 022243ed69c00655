-- A word that is laid, coded and sent under a plan, and received with no wrong sign and no zero. Assumes nothing.
use Rattle.std.specs.Prelude.{◌≡◌, ℕ, ◌<◌, Bool, true, cond, List, length, ℤ, pos, negsuc}
use Rattle.base.specs.Transform.{code_bit}
use Rattle.code.specs.Laying.{laid_bit}
use Rattle.code.specs.Laws as code
use Rattle.code.specs.Recovery.{soft_at}
use Rattle.model.specs.Blocks.{Meaning, block_of}
use Rattle.model.specs.Reading.{first_bits}
use Rattle.plan.specs.Plans.{log_length, block_length, payload_bits, word_bits, kind_at, place_of}
use Rattle.plan.specs.declared.plan.Plan.{Plan}
use Rattle.search.specs.Paths.{information_bits}

-- the K bits of a word, laid under a plan, as a path of N bits
abbrev pub path_of : Plan → (word : List Bool) → List Bool
path_of plan word = first_bits (laid_bit (kind_at plan) word) (block_length plan)

-- the codeword of a word under a plan
abbrev pub code_of : Plan → (word : List Bool) → ℕ → Bool
code_of plan word = code_bit (log_length plan) (laid_bit (kind_at plan) word)

-- the check accepts the K bits; each sent bit of their codeword arrives with its own sign and none as 0; and the soft
-- values are those recovered
pub record ReceivedClean (plan : Plan) (check : Meaning) (word : List Bool) (values llr : ℕ → ℤ) : Type 0 where
  pub whole : length word ≡ word_bits plan
  pub accepted : check.accepted (payload_bits plan) word ≡ true
  pub clean : code.Clean plan (code_of plan word) values
  pub recovered : (i : ℕ) → i < block_length plan → llr i ≡ soft_at plan values i

-- the values of a channel that changes nothing: 1 for bit 0 and −1 for bit 1
abbrev pub signs_of : Plan → (word : List Bool) → ℕ → ℤ
signs_of plan word k = cond (code_of plan word (place_of plan k)) (negsuc 0) (pos 1)

-- besides, the payload that is read out of the path is the one that was sent
pub record PayloadReceived (plan : Plan) (check : Meaning) (payload word : List Bool) (values llr : ℕ → ℤ) : Type 0 where
  pub received : ReceivedClean plan check word values llr
  pub read : (block_of plan llr check).payload (information_bits (block_of plan llr check) (path_of plan word)) ≡ payload
