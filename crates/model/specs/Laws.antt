-- What is promised of blocks and of the reading of stores. Assumes nothing.
use Rattle.std.specs.Prelude.{◌≡◌, ℕ, ◌<◌, ◌≤◌, Bool, true, false, List, [], length, take, ℤ, None, Option}
use Rattle.base.specs.Counts.{sum_below}
use Rattle.base.specs.Transform.{code_bit}
use Rattle.cost.specs.Values.{contradicts}
use Rattle.cost.specs.Rows.{with_path}
use Rattle.plan.specs.declared.plan.Plan.{Plan}
use Rattle.plan.specs.Plans.{log_length, block_length, word_bits}
use Rattle.search.specs.Lists.{Each}
use Rattle.search.specs.Paths.{BlockLaws, information_count}
use Rattle.search.specs.Stores as search
use Rattle.store.specs.declared.candidate.Candidate.{Candidate}
use Rattle.store.specs.Meaning as store
use Rattle.store.specs.Order.{before}
use Rattle.model.specs.Blocks.{Meaning, bits_of, block_of}
use Rattle.model.specs.Reading.{candidate_in, contents_in}

-- no beginning of an accepted word is hopeless
abbrev pub Hopeful : Meaning → Type 0
Hopeful check = (a : ℕ) (word : List Bool) → check.accepted a word ≡ true → (m : ℕ) → check.hopeless a (take m word) ≡ false

-- a block is one that the search may be loaded with, whatever its soft values
abbrev pub BlockIsLawful : Type 0
BlockIsLawful = (plan : Plan) (llr : ℕ → ℤ) (check : Meaning) → Hopeful check → BlockLaws (block_of plan llr check)

-- a word costs the magnitudes of all soft values that its codeword contradicts, added up
abbrev pub WordCostsContradictions : Type 0
WordCostsContradictions =
    (plan : Plan) (llr : ℕ → ℤ) (check : Meaning) (word : List Bool) → length word ≡ block_length plan
    → (block_of plan llr check).cost word ≡ sum_below (λ i. contradicts (llr i) (code_bit (log_length plan) (bits_of word) i)) (block_length plan)

-- the check judges K bits
abbrev pub WordsJudgedWhole : Type 0
WordsJudgedWhole = (plan : Plan) (llr : ℕ → ℤ) (check : Meaning) → information_count (block_of plan llr check) ≡ word_bits plan

-- A store as it is read is the store of the rules. What a newcomer's serial must be for it: later than all kept ones, so
-- that rows never decide on the order.
pub record ReadsAsRuled (paths : ℕ → ℕ → Bool) (kept : List Candidate) (capacity : ℕ) (floor : Option ℕ) : Type 0 where
  pub emptied : (wanted : ℕ) → search.emptied_to wanted ≡ contents_in paths [] (store.held_capacity wanted) None
  pub taken : search.taken_from (contents_in paths kept capacity floor) ≡ contents_in paths (store.takes kept).stays capacity (store.lowered store.metric_of floor (store.takes kept).shed)
  pub put : (c : Candidate) → length kept ≤ capacity → Each (λ k. k.serial < c.serial) kept → search.put_into (contents_in paths kept capacity floor) (candidate_in paths c) ≡ contents_in paths (store.puts before capacity kept c).stays capacity (store.lowered store.metric_of floor (store.puts before capacity kept c).shed)
  pub first : search.first_metric (contents_in paths kept capacity floor).kept ≡ store.first_metric kept
  -- a row that is not held may be written
  pub written : (row : ℕ) (path : ℕ → Bool) → store.holds_row row kept ≡ false → contents_in (with_path paths row path) kept capacity floor ≡ contents_in paths kept capacity floor

abbrev pub StoreReadsAsRuled : Type 0
StoreReadsAsRuled = (paths : ℕ → ℕ → Bool) (kept : List Candidate) (capacity : ℕ) (floor : Option ℕ) → ReadsAsRuled paths kept capacity floor
