-- What is promised of words that are received clean, whatever the store and however the steps are divided among advances.
-- Assumes of stores and checks their laws alone.
use Rattle.std.specs.Prelude.{◌≡◌, ℕ, ◌<◌, Bool, true, false, List, length, ℤ, None}
use Rattle.base.specs.Transform.{code_bit}
use Rattle.code.specs.Laying.{Filled, bits_of, fits_check, laying_verdict, plan_of}
use Rattle.code.specs.Lawful.{FrozenZero}
use Rattle.code.specs.Laws as code
use Rattle.code.specs.Recovery.{Recovered, soft_at, value_at}
use Rattle.code.specs.Sending.{Transforms, coded_at, coded_plan, sending_verdict}
use Rattle.code.specs.declared.coded.Coded.{Coded}
use Rattle.code.specs.declared.laid.Laid.{Laid}
use Rattle.model.specs.Blocks.{Meaning, block_of}
use Rattle.model.specs.Laws.{Hopeful}
use Rattle.plan.specs.Plans.{log_length, block_length, payload_bits, word_bits, sent_bits, mode_in, kind_at, sent_at}
use Rattle.plan.specs.declared.mode.Mode.TheVariants.{Shorten}
use Rattle.plan.specs.declared.plan.Plan.{Plan}
use Rattle.search.specs.Lists.{Each}
use Rattle.search.specs.Paths.{BlockLaws}
use Rattle.search.specs.Stores.{Store}
use Rattle.search.specs.Calls.{Request, Busy}
use Rattle.search.specs.Clean.{Clean}
use Rattle.search.specs.Search.{load_refusal, loaded}
use Rattle.clean.specs.Received.{path_of, code_of, signs_of, ReceivedClean, PayloadReceived}
use Rattle.clean.specs.Advances.{Fitting, CleanWordFirst, PayloadRead}

-- the code bit of every place that shortening leaves out is 0, whatever bits are 0 at frozen positions
abbrev pub ShortenedPlacesCarryZero : Type 0
ShortenedPlacesCarryZero =
    (plan : Plan) (u : ℕ → Bool) → FrozenZero (kind_at plan) (block_length plan) u
    → mode_in plan ≡ Shorten → (i : ℕ) → i < block_length plan → sent_at plan i ≡ false → code_bit (log_length plan) u i ≡ false

-- so every coded word is sent into a buffer of the right length
abbrev pub CodedWordsSent : Type 0
CodedWordsSent =
    (laid : Laid) (coded : Coded) → Transforms laid coded → sending_verdict (coded_plan coded) (coded_at coded) (sent_bits (coded_plan coded)) ≡ None

-- every accepted word can be received clean
abbrev pub WordsCanBeReceived : Type 0
WordsCanBeReceived =
    (plan : Plan) (check : Meaning) (word : List Bool) → length word ≡ word_bits plan → check.accepted (payload_bits plan) word ≡ true
    → ReceivedClean plan check word (signs_of plan word) (soft_at plan (signs_of plan word))

-- the path of a word received clean is admissible and costs nothing, and each lawful bit that leaves it costs something
abbrev pub ReceivedWordStandsApart : Type 0
ReceivedWordStandsApart =
    (plan : Plan) (check : Meaning) (word : List Bool) (values llr : ℕ → ℤ) → ReceivedClean plan check word values llr
    → Clean (block_of plan llr check) (path_of plan word)

-- after a granted load of a block with a clean word, which permits a step more than its size
abbrev pub AnyCleanWordFirst : {S : Type 0} → Store S → Type 0
AnyCleanWordFirst {S} m =
    (s : S) (q : Request) (word : List Bool) → load_refusal q ≡ None → BlockLaws q.block → Clean q.block word → q.block.size < q.steps
    → (turns : List (ℕ × ℕ)) → Each (Fitting q.block.size) turns → CleanWordFirst m (Busy (loaded m s q)) word q.block.size turns

-- so it is after a load of the block of a word received clean
abbrev pub ReceivedWordFirst : {S : Type 0} → Store S → Type 0
ReceivedWordFirst {S} m =
    (plan : Plan) (check : Meaning) (word : List Bool) (values llr : ℕ → ℤ) → Hopeful check → ReceivedClean plan check word values llr
    → (s : S) (q : Request) → q.block ≡ block_of plan llr check → load_refusal q ≡ None → block_length plan < q.steps
    → (turns : List (ℕ × ℕ)) → Each (Fitting (block_length plan)) turns → CleanWordFirst m (Busy (loaded m s q)) (path_of plan word) (block_length plan) turns

-- and the payload that it carries is read from it
abbrev pub ReceivedPayloadFirst : {S : Type 0} → Store S → Type 0
ReceivedPayloadFirst {S} m =
    (plan : Plan) (check : Meaning) (payload word : List Bool) (values llr : ℕ → ℤ) → Hopeful check → PayloadReceived plan check payload word values llr
    → (s : S) (q : Request) → q.block ≡ block_of plan llr check → load_refusal q ≡ None → block_length plan < q.steps
    → (turns : List (ℕ × ℕ)) → Each (Fitting (block_length plan)) turns → PayloadRead m (Busy (loaded m s q)) payload (block_length plan) (payload_bits plan) turns

-- of a check with L bits, for payloads of at most H, that finishes payloads: each finished payload of a plan that fits is
-- a word that the promises above are about, and is read back
abbrev pub FinishedWordsReceived : (check : Meaning) (L H : ℕ) (finished : List Bool → List Bool) → Type 0
FinishedWordsReceived check L H finished =
    (plan : Plan) (payload : List Bool) → fits_check plan L H ≡ true → length payload ≡ payload_bits plan
    → (values llr : ℕ → ℤ) → code.Clean plan (code_of plan (finished payload)) values → ((i : ℕ) → i < block_length plan → llr i ≡ soft_at plan values i)
    → PayloadReceived plan check payload (finished payload) values llr

-- the same through the encoder and recovery: a payload that was laid, transformed, received clean and recovered
abbrev pub EncodedPayloadsReceived : (check : Meaning) (L H : ℕ) (finished : List Bool → List Bool) → Type 0
EncodedPayloadsReceived check L H finished =
    (payload : List ℕ) (fresh laid : Laid) (coded : Coded) → laying_verdict (plan_of fresh) L H payload ≡ None → Filled finished payload fresh laid → Transforms laid coded
    → (values llrs : List ℤ) → code.Clean (plan_of fresh) (coded_at coded) (value_at values) → Recovered (plan_of fresh) values llrs
    → PayloadReceived (plan_of fresh) check (bits_of payload) (finished (bits_of payload)) (value_at values) (value_at llrs)
