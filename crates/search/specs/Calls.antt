-- The states of a decoder, its calls with their arguments and its answers. Assumes nothing.
use Rattle.std.specs.Prelude.{ℕ, Bool, List, Option}
use Rattle.base.specs.declared.refusal.Refusal.{Refusal}
use Rattle.search.specs.Paths.{Block}
use Rattle.search.specs.Stores.{Candidate}

-- What a load is handed. The block stands for the plan and the soft values, whether or not they are granted.
pub record Request : Type 0 where
  pub block : Block
  -- the plan fits the check, and the soft values are as many as the plan's positions
  pub fits : Bool
  -- the index of the first soft value beyond its limits
  pub bad_value : Option ℕ
  -- S, C and T
  pub capacity : ℕ
  pub failures : ℕ
  pub steps : ℕ

pub data Call : Type 0 where
  Load : Request → Call
  -- b, and how many words of scratch
  Advance : ℕ → ℕ → Call
  -- the shown word is turned down, and the search goes on
  Strike : Call
  -- the length of the output
  Word : ℕ → Call
  Report : Call

-- The phase of a loaded block. A decoder that never was loaded is blank.
pub data Phase : Type 0 where
  Searching : Phase
  -- the candidate that is shown
  Shown : Candidate → Phase
  Ended : Phase

pub record Loaded (S : Type 0) : Type 0 where
  pub block : Block
  -- C, the failures, and T, the steps, at which the search gives up
  pub most_failures : ℕ
  pub most_steps : ℕ
  pub store : S
  -- the serial of the next candidate that is put
  pub serial : ℕ
  pub steps : ℕ
  pub failures : ℕ
  pub phase : Phase

pub data Decoder (S : Type 0) : Type 0 where
  -- with a store that may keep anything
  Blank : S → Decoder S
  Busy : Loaded S → Decoder S

-- what a report tells
pub record Figures : Type 0 where
  -- the metric of the shown word
  pub shown : Option ℕ
  pub floor : Option ℕ
  -- no word that is still to come costs less
  pub bound : Option ℕ
  pub steps : ℕ
  pub failures : ℕ

-- What an advance met. A shown word is told here whole; the program's caller reads its payload by the call Word.
pub data Met : Type 0 where
  ShownWord : List Bool → Met
  NoneLeft : Met
  GivenUp : Met
  Paused : Met

pub data Answer : Type 0 where
  Refused : Refusal → Answer
  -- of load, strike and report
  Reported : Figures → Answer
  -- of advance
  Advanced : Met → Figures → Answer
  -- of word
  Payload : List Bool → Answer
