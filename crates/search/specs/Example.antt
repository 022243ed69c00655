-- Runs small enough to follow by hand: two information positions, soft values 3 and −5; first no check and room for two
-- candidates, so that the dearest word is shed, then a check that accepts one word alone. Assumes nothing.
use Rattle.std.specs.Prelude.{◌≡◌, ℕ, Bool, true, false, cond, ◌||◌, List, [], ◌∷◌, map, Some, None, ◌==◌}
use Rattle.base.specs.declared.refusal.Phased.TheVariants as phased
use Rattle.base.specs.declared.refusal.Refusal.TheVariants as refusal
use Rattle.search.specs.Paths.{Kind, frozen, information, parity, Block, allowed}
use Rattle.search.specs.Stores.{ruled, emptied_to}
use Rattle.search.specs.Calls.{Call, Load, Advance, Strike, Word, Report, Blank, ShownWord, NoneLeft, GivenUp, Paused, Answer, Refused, Reported, Advanced, Payload}
use Rattle.search.specs.Records.{recorded}

-- the first decision value is −3; the second is −2 after a 0 and −8 after a 1
unfoldable pub two_bit_cost : List Bool → ℕ
two_bit_cost [] = 0
two_bit_cost (false ∷ []) = 3
two_bit_cost (true ∷ []) = 0
two_bit_cost (false ∷ (false ∷ rest)) = 5
two_bit_cost (false ∷ (true ∷ rest)) = 3
two_bit_cost (true ∷ (false ∷ rest)) = 8
two_bit_cost (true ∷ (true ∷ rest)) = 0

abbrev pub two_bits : Block
two_bits = record { size = 2; kind = λ i. information; cost = two_bit_cost; accepted = λ bits. true; hopeless = λ bits. false; payload_length = 2; payload = λ bits. bits }

abbrev pub example_calls : List Call
example_calls =
    Report ∷ Load (record { block = two_bits; fits = true; bad_value = None; capacity = 1; failures = 1; steps = 100 })
    ∷ Load (record { block = two_bits; fits = true; bad_value = None; capacity = 2; failures = 1; steps = 100 })
    ∷ Advance 2 4 ∷ Advance 9 3 ∷ Advance 9 4 ∷ Word 1 ∷ Word 2
    ∷ Strike ∷ Advance 9 4 ∷ Strike ∷ Advance 9 4 ∷ Strike ∷ Advance 9 4 ∷ Strike ∷ []

abbrev pub example_answers : List Answer
example_answers =
    Refused (refusal.WrongPhase phased.Report) ∷ Refused (refusal.Block 0)
    ∷ Reported (record { shown = None; floor = None; bound = Some 0; steps = 0; failures = 0 })
    ∷ Advanced Paused (record { shown = None; floor = Some 8; bound = Some 0; steps = 2; failures = 0 })
    ∷ Refused refusal.Budget
    ∷ Advanced (ShownWord (true ∷ true ∷ [])) (record { shown = Some 0; floor = Some 8; bound = Some 3; steps = 3; failures = 0 })
    ∷ Refused refusal.OutputLength
    ∷ Payload (true ∷ true ∷ [])
    ∷ Reported (record { shown = None; floor = Some 8; bound = Some 3; steps = 3; failures = 0 })
    ∷ Advanced (ShownWord (false ∷ true ∷ [])) (record { shown = Some 3; floor = Some 8; bound = Some 5; steps = 5; failures = 0 })
    ∷ Reported (record { shown = None; floor = Some 8; bound = Some 5; steps = 5; failures = 0 })
    ∷ Advanced (ShownWord (false ∷ false ∷ [])) (record { shown = Some 5; floor = Some 8; bound = Some 8; steps = 6; failures = 0 })
    ∷ Reported (record { shown = None; floor = Some 8; bound = Some 8; steps = 6; failures = 0 })
    ∷ Advanced NoneLeft (record { shown = None; floor = Some 8; bound = Some 8; steps = 6; failures = 0 })
    ∷ Refused (refusal.WrongPhase phased.Strike) ∷ []

-- a check that accepts 10 alone and knows that no accepted word begins with 0
unfoldable pub is_one_zero : List Bool → Bool
is_one_zero [] = false
is_one_zero (false ∷ rest) = false
is_one_zero (true ∷ []) = false
is_one_zero (true ∷ (false ∷ [])) = true
is_one_zero (true ∷ (false ∷ (u ∷ rest))) = false
is_one_zero (true ∷ (true ∷ rest)) = false

unfoldable pub begins_with_zero : List Bool → Bool
begins_with_zero [] = false
begins_with_zero (false ∷ rest) = true
begins_with_zero (true ∷ rest) = false

abbrev pub checked_bits : Block
checked_bits = record { size = 2; kind = λ i. information; cost = two_bit_cost; accepted = is_one_zero; hopeless = begins_with_zero; payload_length = 2; payload = λ bits. bits }

abbrev pub checked_calls : List Call
checked_calls =
    Load (record { block = checked_bits; fits = true; bad_value = None; capacity = 8; failures = 1; steps = 100 })
    ∷ Advance 9 4 ∷ Advance 9 4
    ∷ Load (record { block = checked_bits; fits = true; bad_value = Some 1; capacity = 8; failures = 2; steps = 100 })
    ∷ Load (record { block = checked_bits; fits = true; bad_value = None; capacity = 8; failures = 2; steps = 2 })
    ∷ Advance 9 4
    ∷ Load (record { block = checked_bits; fits = true; bad_value = None; capacity = 8; failures = 2; steps = 100 })
    ∷ Advance 9 4 ∷ Advance 9 4 ∷ []

abbrev pub checked_answers : List Answer
checked_answers =
    Reported (record { shown = None; floor = None; bound = Some 0; steps = 0; failures = 0 })
    ∷ Advanced GivenUp (record { shown = None; floor = None; bound = Some 8; steps = 3; failures = 1 })
    ∷ Refused (refusal.WrongPhase phased.Advance)
    ∷ Refused (refusal.Block 1)
    ∷ Reported (record { shown = None; floor = None; bound = Some 0; steps = 0; failures = 0 })
    ∷ Advanced GivenUp (record { shown = None; floor = None; bound = Some 0; steps = 2; failures = 0 })
    ∷ Reported (record { shown = None; floor = None; bound = Some 0; steps = 0; failures = 0 })
    ∷ Advanced (ShownWord (true ∷ false ∷ [])) (record { shown = Some 8; floor = None; bound = None; steps = 4; failures = 1 })
    ∷ Refused (refusal.WrongPhase phased.Advance) ∷ []

-- of two parity positions with one information position before them, the second does not add in the first
abbrev pub parity_kinds : ℕ → Kind
parity_kinds i = cond (i == 0) information (cond (i == 5 || i == 10) parity frozen)

abbrev pub parity_path : List Bool
parity_path = true ∷ false ∷ false ∷ false ∷ false ∷ true ∷ false ∷ false ∷ false ∷ false ∷ []

abbrev pub SecondParityStands : Type 0
SecondParityStands = allowed parity_kinds parity_path ≡ true ∷ []

-- a new decoder over the store of the rules answers the calls so
abbrev pub AnsweredBy : List Call → List Answer → Type 0
AnsweredBy calls answers = map (λ e. e.answer) (recorded ruled (Blank (emptied_to 2)) calls) ≡ answers
