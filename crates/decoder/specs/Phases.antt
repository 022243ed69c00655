-- Which calls each phase allows, and what refuses the others. Assumes nothing.
use Rattle.std.specs.Prelude.{Bool, true, false, cond, Some, None, Ok, Err, Option, Result}
use Rattle.base.specs.declared.refusal.Phased.{Phased}
use Rattle.base.specs.declared.refusal.Phased.TheVariants as call
use Rattle.base.specs.declared.refusal.Refusal.{Refusal}
use Rattle.base.specs.declared.refusal.Refusal.TheVariants as refusal
use Rattle.decoder.specs.declared.phase.Phase.{Phase}
use Rattle.decoder.specs.declared.phase.Phase.TheVariants as phase

abbrev pub allows : Phase → Phased → Bool
allows phase.Blank call.Advance = false
allows phase.Blank call.Strike = false
allows phase.Blank call.Word = false
allows phase.Blank call.Report = false
allows phase.Searching call.Advance = true
allows phase.Searching call.Strike = false
allows phase.Searching call.Word = false
allows phase.Searching call.Report = true
allows (phase.Shown c) call.Advance = false
allows (phase.Shown c) call.Strike = true
allows (phase.Shown c) call.Word = true
allows (phase.Shown c) call.Report = true
allows phase.Ended call.Advance = false
allows phase.Ended call.Strike = false
allows phase.Ended call.Word = false
allows phase.Ended call.Report = true

abbrev pub phase_refusal : Phase → Phased → Option Refusal
phase_refusal ph c = cond (allows ph c) None (Some (refusal.WrongPhase c))

-- why a call was refused, if it was
abbrev pub error_of : {X : Type 0} → Result X Refusal → Option Refusal
error_of (Ok x) = None
error_of (Err e) = Some e

-- the first refusal of two that are looked for one after the other
abbrev pub first_of : Option Refusal → Option Refusal → Option Refusal
first_of (Some e) later = Some e
first_of None later = later

-- a block is loaded
abbrev pub is_loaded : Phase → Bool
is_loaded phase.Blank = false
is_loaded phase.Searching = true
is_loaded (phase.Shown c) = true
is_loaded phase.Ended = true
