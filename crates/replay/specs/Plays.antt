-- A call as the search's, what the search answers as the program's, and what a call leaves in the buffers it is lent.
-- Assumes nothing.
use Rattle.std.specs.Prelude.{ℕ, ◌-◌, ◌*◌, min, List, ◌++◌, map, length, take, drop, replicate, ℤ, pos, Ok, Err, Result}
use Rattle.base.specs.declared.refusal.Refusal.{Refusal}
use Rattle.code.specs.Sending.{byte_of}
use Rattle.outer.specs.declared.check.Judge as Judge
use Rattle.search.specs.Calls as search
use Rattle.search.specs.Stores.{Contents}
use Rattle.decoder.specs.Answers.{request_of}
use Rattle.decoder.specs.declared.report.Report.{Report}
use Rattle.decoder.specs.declared.report.Met.{Met}
use Rattle.decoder.specs.declared.report.Met.TheVariants as met
use Rattle.replay.specs.declared.call.Call.{Call}
use Rattle.replay.specs.declared.call.Call.TheVariants as call
use Rattle.replay.specs.declared.call.Answer.{Answer}
use Rattle.replay.specs.declared.call.Answer.TheVariants as answer
use Rattle.replay.specs.declared.payload.Payload.{Payload}

-- a call of a decoder over a check, where there are these soft values, and so many words of scratch and bytes of output
abbrev pub call_of : {C : Type 0} → Judge.Ghosts C → C → (values : List ℤ) (scratch output : ℕ) → Call → search.Call
call_of judge check values scratch output call.Report = search.Report
call_of judge check values scratch output call.Strike = search.Strike
call_of judge check values scratch output (call.Load plan at count limits) = search.Load (request_of judge check plan (take count (drop at values)) limits)
call_of judge check values scratch output (call.Advance budget words) = search.Advance budget (min words scratch)
call_of judge check values scratch output (call.Word bytes) = search.Word (min bytes output)

abbrev pub report_from : search.Figures → Report
report_from f = record { shown = f.shown; floor = f.floor; bound = f.bound; steps = f.steps; failures = f.failures }

-- the shown word itself is told by the call Word
abbrev pub met_from : search.Met → Met
met_from (search.ShownWord word) = met.Shown
met_from search.NoneLeft = met.NoneLeft
met_from search.GivenUp = met.GivenUp
met_from search.Paused = met.Paused

-- bytes with zeros behind them, 512 in all
abbrev pub held : List ℕ → Payload
held bytes = record { bits = take (min (length bytes) 512) bytes ++ replicate (512 - min (length bytes) 512) 0; len = min (length bytes) 512 }

abbrev pub bytes_in : Payload → List ℕ
bytes_in payload = take payload.len payload.bits

abbrev pub heard : search.Answer → Result Answer Refusal
heard (search.Refused e) = Err e
heard (search.Reported f) = Ok (answer.Reported (report_from f))
heard (search.Advanced met f) = Ok (answer.Advanced (met_from met) (report_from f))
heard (search.Payload bits) = Ok (answer.Payload (held (map byte_of bits)))

-- N of the loaded block
abbrev pub size_in : search.Decoder Contents → ℕ
size_in (search.Blank s) = 0
size_in (search.Busy d) = d.block.size

-- what a call to a decoder leaves in scratch, by what it answers: an advance wipes 2N words, and nothing else is touched
abbrev pub scratch_left : search.Decoder Contents → search.Answer → List ℤ → List ℤ
scratch_left d (search.Refused e) before = before
scratch_left d (search.Reported f) before = before
scratch_left d (search.Advanced met f) before = replicate (2 * size_in d) (pos 0) ++ drop (2 * size_in d) before
scratch_left d (search.Payload bits) before = before

-- and in output: the payload, a byte for each bit, and nothing else is touched
abbrev pub output_left : search.Decoder Contents → search.Answer → List ℕ → List ℕ
output_left d (search.Refused e) before = before
output_left d (search.Reported f) before = before
output_left d (search.Advanced met f) before = before
output_left d (search.Payload bits) before = map byte_of bits ++ drop (length bits) before
