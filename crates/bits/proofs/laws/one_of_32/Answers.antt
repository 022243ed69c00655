use Rattle.std.proofs.Common.{◌≡◌, ℕ, Bool, true, false, cond, not, ◌&&◌, eqb, refl, ◌∙◌, inl, inr, arith}
use mathlib.Core.Bool.{xor}
use Rattle.std.proofs.lemmas.Bool.{cases_lt}
use Rattle.std.proofs.lemmas.Bool.Decides.{nat_tests}
use Rattle.base.specs.Counts.{all_below, xor_below}
use Rattle.base.specs.Transform.{code_bit}
use Rattle.base.proofs.Transform.{code-bit-same}
use Rattle.bits.specs.Laws.{OneOf32, of_five}
use Rattle.bits.specs.Row.{row_bit}
use Rattle.base.proofs.Counts.{all-at}
use Rattle.bits.proofs.Masks.{beq-true}
use Rattle.bits.proofs.laws.one_of_32.Goals as goal

abbrev right : ℕ → Bool
right i = not (xor (code_bit 5 (λ k. eqb k 5) i) (of_five i))

all_right : all_below right 32 ≡ true
unfolding all_below xor_below xor
all_right = refl

one-of-32 : OneOf32
one-of-32 i h = beq-true (code_bit 5 (λ k. eqb k 5) i) (of_five i) (all-at right 32 all_right i h)

chosen : (t b : Bool) → b ≡ false → cond (t && true) true b ≡ t
chosen true b e = refl
chosen false b e = e

pub returns : goal.returns
returns c =
    let laid : (k : ℕ) → row_bit c.set.new.self k ≡ eqb k 5 = λ k. c.set.ensures k ∙ chosen (eqb k 5) (row_bit c.zero-row.result k) (c.zero-row.ensures k) in
    record {
      rule = one-of-32;
      result = λ i. elim (cases_lt i 32) [
        | inl l ↦
            c.transform.ensures.inside (omega arith) i l
            ∙ code-bit-same 5 (row_bit c.set.new.self) (λ k. eqb k 5) i (λ k _. laid k)
            ∙ one-of-32 i l
        | inr far ↦
            let none : eqb i 5 ≡ of_five i = grind (arith, nat_tests) in
            c.transform.ensures.outside i far ∙ laid i ∙ none
      ];
    }
