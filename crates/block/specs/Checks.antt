-- The check that a code names: each part is that of its kind. Assumes nothing.
use Rattle.std.specs.Prelude.{ℕ, Bool, true, false, List, length, take}
use Rattle.block.specs.declared.code.CheckCode.{CheckCode}
use Rattle.block.specs.declared.code.CheckCode.TheVariants as check
use Rattle.crc.specs.Lengths.{fitting}
use Rattle.crc.specs.Spread.{interleaved, deinterleaved, broken}
use Rattle.crc.specs.Spread as spreading
use Rattle.crc.specs.declared.spread.Spread.TheVariants as spread
use Rattle.outer.specs.Trailing.{followed}
use Rattle.outer.specs.Trailing as following
use Rattle.outer.specs.declared.trailing.Trailing.TheVariants as trailing

-- the words that are accepted, for payloads of a bits
abbrev pub accepted_by : CheckCode → (a : ℕ) → List Bool → Bool
accepted_by check.None a word = fitting 512 0 a (length word)
accepted_by check.Trailing6 a word = following.sound trailing.Six a word
accepted_by check.Trailing11 a word = following.sound trailing.Eleven a word
accepted_by check.Spread4 a word = spreading.sound spread.Four a word
accepted_by check.Spread24 a word = spreading.sound spread.TwentyFour a word

-- the hopeless beginnings, for payloads of a bits
abbrev pub hopeless_by : CheckCode → (a : ℕ) → List Bool → Bool
hopeless_by check.None a beginning = false
hopeless_by check.Trailing6 a beginning = false
hopeless_by check.Trailing11 a beginning = false
hopeless_by check.Spread4 a beginning = broken spread.Four a beginning
hopeless_by check.Spread24 a beginning = broken spread.TwentyFour a beginning

-- whether any beginning is hopeless at all
abbrev pub watchful_by : CheckCode → Bool
watchful_by check.None = false
watchful_by check.Trailing6 = false
watchful_by check.Trailing11 = false
watchful_by check.Spread4 = true
watchful_by check.Spread24 = true

-- the payload of a bits that a word carries
abbrev pub carried_by : CheckCode → (a : ℕ) → List Bool → List Bool
carried_by check.None a word = take a word
carried_by check.Trailing6 a word = take a word
carried_by check.Trailing11 a word = take a word
carried_by check.Spread4 a word = deinterleaved spread.Four a word
carried_by check.Spread24 a word = deinterleaved spread.TwentyFour a word

-- how a payload is finished
abbrev pub finished_by : CheckCode → List Bool → List Bool
finished_by check.None payload = payload
finished_by check.Trailing6 payload = followed trailing.Six payload
finished_by check.Trailing11 payload = followed trailing.Eleven payload
finished_by check.Spread4 payload = interleaved spread.Four payload
finished_by check.Spread24 payload = interleaved spread.TwentyFour payload
