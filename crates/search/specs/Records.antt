-- Runs of a decoder and what their record tells: the calls with their answers, oldest first. Assumes nothing.
use Rattle.std.specs.Prelude.{◌≡◌, Bool, List, [], ◌∷◌, map, Some, None, Option}
use Rattle.search.specs.Lists.{Each}
use Rattle.search.specs.Paths.{Block, BlockLaws}
use Rattle.search.specs.Stores.{Store}
use Rattle.search.specs.Calls.{Call, Load, Advance, Strike, Word, Report, Decoder, Figures, Met, ShownWord, NoneLeft, GivenUp, Paused, Answer, Refused, Reported, Advanced, Payload}
use Rattle.search.specs.Search.{called, load_refusal}

pub record Entry : Type 0 where
  pub call : Call
  pub answer : Answer

-- the record of the calls, made one after the other
abbrev pub recorded : {S : Type 0} → Store S → Decoder S → List Call → List Entry
recorded m d [] = []
recorded m d (c ∷ cs) = record { call = c; answer = (called m d c).1 } ∷ recorded m (called m d c).0 cs

-- the decoder after them
abbrev pub after : {S : Type 0} → Store S → Decoder S → List Call → Decoder S
after m d [] = d
after m d (c ∷ cs) = after m (called m d c).0 cs

-- A word that an advance answered to have shown, and the report that it answered with.
pub record Showing : Type 0 where
  pub word : List Bool
  pub report : Figures

-- the block then loaded, and what was shown since its load, latest first
pub record Session : Type 0 where
  pub block : Block
  pub showings : List Showing

abbrev pub showing : Option Session → Met → Figures → Option Session
showing None met r = None
showing (Some s) (ShownWord w) r = Some (record { block = s.block; showings = record { word = w; report = r } ∷ s.showings })
showing (Some s) NoneLeft r = Some s
showing (Some s) GivenUp r = Some s
showing (Some s) Paused r = Some s

-- A granted load opens a session; an advance that answers shown adds to it.
abbrev pub onward : Option Session → Call → Answer → Option Session
onward s (Load q) (Refused r) = s
onward s (Load q) (Reported r) = Some (record { block = q.block; showings = [] })
onward s (Load q) (Advanced met r) = s
onward s (Load q) (Payload bits) = s
onward s (Advance b n) (Refused r) = s
onward s (Advance b n) (Reported r) = s
onward s (Advance b n) (Advanced met r) = showing s met r
onward s (Advance b n) (Payload bits) = s
onward s Strike a = s
onward s (Word n) a = s
onward s Report a = s

abbrev pub session_from : Option Session → List Entry → Option Session
session_from s [] = s
session_from s (e ∷ es) = session_from (onward s e.call e.answer) es

-- from a new decoder on
abbrev pub session : List Entry → Option Session
session entries = session_from None entries

abbrev pub words_of : List Showing → List (List Bool)
words_of showings = map (λ s. s.word) showings

-- a load that is granted hands over a block that meets its laws
abbrev pub LawfulCall : Call → Type 0
LawfulCall (Load q) = load_refusal q ≡ None → BlockLaws q.block
LawfulCall (Advance b n) = Unit {0}
LawfulCall Strike = Unit {0}
LawfulCall (Word n) = Unit {0}
LawfulCall Report = Unit {0}

abbrev pub LawfulCalls : List Call → Type 0
LawfulCalls calls = Each LawfulCall calls
