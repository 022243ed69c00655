-- The laws of the check that a code names: each is that of its kind. They are proved, so nothing here is to be believed.
use Rattle.std.proofs.Common.{◌≡◌, ℕ, ◌+◌, ◌≤◌, Bool, true, false, List, length, take, refl, arith, rules}
use Rattle.std.proofs.lemmas.Bool.Decides.{nat_tests}
use Rattle.std.proofs.lemmas.List.{take_all}
use Rattle.block.specs.declared.code.CheckCode.{CheckCode}
use Rattle.block.specs.declared.code.CheckCode.TheVariants as check
use Rattle.block.specs.Checks.{accepted_by, hopeless_by, watchful_by, carried_by, finished_by}
use Rattle.block.specs.Codes.{check_bits, longest_payload}
use Rattle.crc.proofs.Interleaving.{sound-parts, sound-hopeful, length-deinterleaved, interleaved-sound, interleaved-reads-back, sound-interleaved}
use Rattle.crc.specs.declared.spread.Spread.TheVariants as spread
use Rattle.outer.specs.Followed.{sound-length, followed-sound, take-followed, sound-followed}
use Rattle.outer.specs.declared.trailing.Trailing.TheVariants as trailing

pub check-few : (c : CheckCode) → check_bits c ≤ 24
check-few check.None = omega arith
check-few check.Trailing6 = omega arith
check-few check.Trailing11 = omega arith
check-few check.Spread4 = omega arith
check-few check.Spread24 = omega arith

pub accepted-length : (c : CheckCode) (a : ℕ) (w : List Bool) → accepted_by c a w ≡ true → (a ≤ longest_payload c) × (length w ≡ a + check_bits c)
accepted-length check.None a w h = grind (arith, nat_tests)
accepted-length check.Trailing6 a w h = sound-length trailing.Six a w h
accepted-length check.Trailing11 a w h = sound-length trailing.Eleven a w h
accepted-length check.Spread4 a w h = let p = sound-parts spread.Four a w h in (p.0, p.1)
accepted-length check.Spread24 a w h = let p = sound-parts spread.TwentyFour a w h in (p.0, p.1)

pub accepted-hopeful : (c : CheckCode) (a : ℕ) (w : List Bool) (m : ℕ) → accepted_by c a w ≡ true → hopeless_by c a (take m w) ≡ false
accepted-hopeful check.None a w m h = refl
accepted-hopeful check.Trailing6 a w m h = refl
accepted-hopeful check.Trailing11 a w m h = refl
accepted-hopeful check.Spread4 a w m h = sound-hopeful spread.Four a w m h
accepted-hopeful check.Spread24 a w m h = sound-hopeful spread.TwentyFour a w m h

pub unwatchful-hopeful : (c : CheckCode) (a : ℕ) (b : List Bool) → watchful_by c ≡ false → hopeless_by c a b ≡ false
unwatchful-hopeful check.None a b h = refl
unwatchful-hopeful check.Trailing6 a b h = refl
unwatchful-hopeful check.Trailing11 a b h = refl
unwatchful-hopeful check.Spread4 a b h = search rules
unwatchful-hopeful check.Spread24 a b h = search rules

pub carried-length : (c : CheckCode) (a : ℕ) (w : List Bool) → length w ≡ a + check_bits c → length (carried_by c a w) ≡ a
carried-length check.None a w h = search rules
carried-length check.Trailing6 a w h = search rules
carried-length check.Trailing11 a w h = search rules
carried-length check.Spread4 a w h = length-deinterleaved spread.Four a w
carried-length check.Spread24 a w h = length-deinterleaved spread.TwentyFour a w

pub finished-accepted : (c : CheckCode) (p : List Bool) → length p ≤ longest_payload c → accepted_by c (length p) (finished_by c p) ≡ true
finished-accepted check.None p h = grind (arith, nat_tests)
finished-accepted check.Trailing6 p h = followed-sound trailing.Six p h
finished-accepted check.Trailing11 p h = followed-sound trailing.Eleven p h
finished-accepted check.Spread4 p h = interleaved-sound spread.Four p h
finished-accepted check.Spread24 p h = interleaved-sound spread.TwentyFour p h

pub finished-reads-back : (c : CheckCode) (p : List Bool) → length p ≤ longest_payload c → carried_by c (length p) (finished_by c p) ≡ p
finished-reads-back check.None p h = take_all (length p) p (omega arith)
finished-reads-back check.Trailing6 p h = take-followed trailing.Six p
finished-reads-back check.Trailing11 p h = take-followed trailing.Eleven p
finished-reads-back check.Spread4 p h = interleaved-reads-back spread.Four p h
finished-reads-back check.Spread24 p h = interleaved-reads-back spread.TwentyFour p h

pub accepted-finished : (c : CheckCode) (a : ℕ) (w : List Bool) → accepted_by c a w ≡ true → finished_by c (carried_by c a w) ≡ w
accepted-finished check.None a w h = let k : length w ≤ a = grind (arith, nat_tests) in take_all a w k
accepted-finished check.Trailing6 a w h = sound-followed trailing.Six a w h
accepted-finished check.Trailing11 a w h = sound-followed trailing.Eleven a w h
accepted-finished check.Spread4 a w h = sound-interleaved spread.Four a w h
accepted-finished check.Spread24 a w h = sound-interleaved spread.TwentyFour a w h
