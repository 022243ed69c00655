-- The layer, number and position of every refusal. Assumes nothing.
use Rattle.std.specs.Prelude.{ℕ, List, ◌++◌, codes, decimal}
use Rattle.base.specs.declared.refusal.Layer.{Layer}
use Rattle.base.specs.declared.refusal.Layer.TheVariants as layer
use Rattle.base.specs.declared.refusal.Phased.{Phased}
use Rattle.base.specs.declared.refusal.Phased.TheVariants as call
use Rattle.base.specs.declared.refusal.Refusal.{Refusal}
use Rattle.base.specs.declared.refusal.Refusal.TheVariants.{Cut, Tag, Form, Limits, Crowded, Payload, SentLength, ShortenedOne, ReceivedLength, Value, Block, WrongPhase, Budget, OutputLength}

abbrev pub layer_of_call : Phased → Layer
layer_of_call call.Advance = layer.Advance
layer_of_call call.Strike = layer.Strike
layer_of_call call.Word = layer.Word
layer_of_call call.Report = layer.Report

abbrev pub layer_of : Refusal → Layer
layer_of (Cut at) = layer.File
layer_of (Tag at) = layer.File
layer_of (Form at) = layer.File
layer_of Limits = layer.Plan
layer_of Crowded = layer.Plan
layer_of (Payload at) = layer.Laying
layer_of SentLength = layer.Sending
layer_of (ShortenedOne at) = layer.Sending
layer_of ReceivedLength = layer.Recovery
layer_of (Value at) = layer.Recovery
layer_of (Block at) = layer.Load
layer_of (WrongPhase call) = layer_of_call call
layer_of Budget = layer.Advance
layer_of OutputLength = layer.Word

abbrev pub number_of : Refusal → ℕ
number_of (Cut at) = 1
number_of (Tag at) = 2
number_of (Form at) = 3
number_of Limits = 4
number_of Crowded = 5
number_of (Payload at) = 6
number_of SentLength = 7
number_of (ShortenedOne at) = 8
number_of ReceivedLength = 7
number_of (Value at) = 9
number_of (Block at) = 10
number_of (WrongPhase call) = 11
number_of Budget = 12
number_of OutputLength = 13

abbrev pub position_of : Refusal → ℕ
position_of (Cut at) = at
position_of (Tag at) = at
position_of (Form at) = at
position_of Limits = 0
position_of Crowded = 0
position_of (Payload at) = at
position_of SentLength = 0
position_of (ShortenedOne at) = at
position_of ReceivedLength = 0
position_of (Value at) = at
position_of (Block at) = at
position_of (WrongPhase call) = 0
position_of Budget = 0
position_of OutputLength = 0

abbrev pub layer_name : Layer → List ℕ
layer_name layer.File = codes "file"
layer_name layer.Plan = codes "plan"
layer_name layer.Laying = codes "laying"
layer_name layer.Sending = codes "sending"
layer_name layer.Recovery = codes "recovery"
layer_name layer.Load = codes "load"
layer_name layer.Advance = codes "advance"
layer_name layer.Strike = codes "strike"
layer_name layer.Word = codes "word"
layer_name layer.Report = codes "report"

-- a refusal as a line of output holds it
abbrev pub fault_text : Refusal → List ℕ
fault_text e =
    layer_name (layer_of e) ++ (codes " " ++ (decimal (number_of e) ++ (codes " " ++ decimal (position_of e))))
