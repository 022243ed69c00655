-- A loaded block as the search sees it: from a plan, its soft values and what a check means. Assumes nothing.
use Rattle.std.specs.Prelude.{ℕ, Bool, false, List, length, ℤ, slice_index_or}
use Rattle.cost.specs.Path.{cost}
use Rattle.outer.specs.declared.check.Judge as Judge
use Rattle.plan.specs.declared.kind.Kind.{Kind}
use Rattle.plan.specs.declared.kind.Kind.TheVariants.{Frozen, Information, Parity}
use Rattle.plan.specs.declared.plan.Plan.{Plan}
use Rattle.plan.specs.Plans.{log_length, block_length, payload_bits, kind_at}
use Rattle.search.specs.Paths as search

-- What a check means, for payloads of a length: the words it accepts, the beginnings it calls hopeless (no accepted
-- word begins with them), and the payload that a word carries.
pub record Meaning : Type 0 where
  pub accepted : ℕ → List Bool → Bool
  pub hopeless : ℕ → List Bool → Bool
  pub carried : ℕ → List Bool → List Bool

-- of a check, by its members
abbrev pub meaning_of : {C : Type 0} → Judge.Ghosts C → C → Meaning
meaning_of judge check = record { accepted = judge.accepted check; hopeless = judge.hopeless check; carried = judge.carried check }

abbrev pub kind_of : Kind → search.Kind
kind_of Frozen = search.frozen
kind_of Information = search.information
kind_of Parity = search.parity

abbrev pub kinds_of : Plan → ℕ → search.Kind
kinds_of plan i = kind_of (kind_at plan i)

-- the bits of a path by position; false from its end on
abbrev pub bits_of : List Bool → ℕ → Bool
bits_of path k = slice_index_or path k false

abbrev pub path_cost : ℕ → (ℕ → ℤ) → List Bool → ℕ
path_cost n llr path = cost n llr (bits_of path) (length path)

abbrev pub block_of : Plan → (ℕ → ℤ) → Meaning → search.Block
block_of plan llr check = record {
  size = block_length plan;
  kind = kinds_of plan;
  cost = path_cost (log_length plan) llr;
  accepted = check.accepted (payload_bits plan);
  hopeless = check.hopeless (payload_bits plan);
  payload_length = payload_bits plan;
  payload = check.carried (payload_bits plan);
}
