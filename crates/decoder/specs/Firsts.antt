-- A cleanly received word is the first that a loaded decoder shows. Assumes nothing.
use Rattle.std.specs.Prelude.{ℕ, ◌<◌, Bool, List, ℤ, pos, slice_index_or}
use Rattle.clean.specs.Advances.{Fitting, CleanWordFirst, PayloadRead}
use Rattle.clean.specs.Received.{PayloadReceived, path_of}
use Rattle.model.specs.Blocks.{Meaning}
use Rattle.plan.specs.Plans.{block_length, payload_bits}
use Rattle.plan.specs.declared.plan.Plan.{Plan}
use Rattle.search.specs.Calls.{Decoder}
use Rattle.search.specs.Lists.{Each}
use Rattle.search.specs.Stores.{Contents, ruled}
use Rattle.decoder.specs.declared.limits.Limits.{Limits}

-- Where the soft values are those recovered from a word that was laid under the plan and received with no wrong sign and
-- no zero, and T permits N + 1 steps: however the advances after the load are divided, they pause until N + 1 steps are
-- made, and then show that word at cost 0, and its payload is the one that was sent.
abbrev pub CleanFirst : Plan → Meaning → (llrs : List ℤ) → Limits → (after : Decoder Contents) → Type 0
CleanFirst plan check llrs limits after =
    (payload word : List Bool) (values : ℕ → ℤ) → PayloadReceived plan check payload word values (λ k. slice_index_or llrs k (pos 0))
    → block_length plan < limits.steps → (turns : List (ℕ × ℕ)) → Each (Fitting (block_length plan)) turns
    → CleanWordFirst ruled after (path_of plan word) (block_length plan) turns × PayloadRead ruled after payload (block_length plan) (payload_bits plan) turns
