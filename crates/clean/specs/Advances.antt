-- Advances one after the other, and how a clean word comes first among their answers. Assumes nothing.
use Rattle.std.specs.Prelude.{◌≡◌, ℕ, suc, ◌+◌, ◌*◌, ◌<◌, ◌≤◌, Bool, ◌⊎◌, List, [], ◌∷◌, map, Some}
use Rattle.search.specs.Lists.{Each}
use Rattle.search.specs.Stores.{Store}
use Rattle.search.specs.Calls.{Call, Advance, Word, Decoder, Figures, ShownWord, Paused, Answer, Advanced, Payload}
use Rattle.search.specs.Records.{recorded, after}
use Rattle.search.specs.Search.{called}

-- a turn is the budget and the scratch, in words, of one advance
abbrev pub turn_call : ℕ × ℕ → Call
turn_call turn = Advance turn.0 turn.1

abbrev pub answers_to : {S : Type 0} → Store S → Decoder S → (turns : List (ℕ × ℕ)) → List Answer
answers_to m d turns = map (λ e. e.answer) (recorded m d (map turn_call turns))

-- within the limits of an advance over a block of a size
pub record Fitting (size : ℕ) (turn : ℕ × ℕ) : Type 0 where
  pub least : 1 ≤ turn.0
  pub most : turn.0 ≤ 65536
  pub scratch : 2 * size ≤ turn.1

-- all budgets together
abbrev pub budgets : List (ℕ × ℕ) → ℕ
budgets [] = 0
budgets (turn ∷ turns) = turn.0 + budgets turns

pub record AnswersPaused (a : Answer) : Type 0 where
  pub report : Figures
  pub is : a ≡ Advanced Paused report

-- the word is shown, at cost 0 and after so many steps
pub record AnswersWord (word : List Bool) (steps : ℕ) (a : Answer) : Type 0 where
  pub report : Figures
  pub is : a ≡ Advanced (ShownWord word) report
  pub free : report.shown ≡ Some 0
  pub counted : report.steps ≡ steps

-- the first answer that is not paused shows the word
abbrev pub ShowsFirst : (word : List Bool) (steps : ℕ) → List Answer → Type 0
ShowsFirst word steps [] = ⊥
ShowsFirst word steps (a ∷ later) = AnswersWord word steps a ⊎ (AnswersPaused a × ShowsFirst word steps later)

-- Until the budgets come to more than the size every advance pauses; then the word is shown, at cost 0 after one step
-- more than the size. Every beginning of the turns is a list of turns: so which advance shows it is settled as well.
pub record CleanWordFirst {S : Type 0} (m : Store S) (d : Decoder S) (word : List Bool) (size : ℕ) (turns : List (ℕ × ℕ)) : Type 0 where
  pub waits : budgets turns ≤ size → Each AnswersPaused (answers_to m d turns)
  pub shows : size < budgets turns → ShowsFirst word (suc size) (answers_to m d turns)

-- once the budgets come to more than the size, a call of Word with an output of a length answers the payload
abbrev pub PayloadRead : {S : Type 0} → Store S → Decoder S → (payload : List Bool) (size output : ℕ) (turns : List (ℕ × ℕ)) → Type 0
PayloadRead m d payload size output turns =
    size < budgets turns → (called m (after m d (map turn_call turns)) (Word output)).1 ≡ Payload payload
