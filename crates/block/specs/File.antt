-- What is wrong with a block file, and where: the first fault in the order of examination. Assumes nothing.
use Rattle.std.specs.Prelude.{ℕ, ◌+◌, ◌*◌, cond, not, List, length, take, drop, Some, None, Option, ◌==◌, nat_le, nat_lt, slice_index}
use Rattle.base.specs.declared.refusal.Refusal.{Refusal}
use Rattle.base.specs.declared.refusal.Refusal.TheVariants.{Cut, Tag, Form}
use Rattle.block.specs.declared.due.Due.{Due}
use Rattle.block.specs.declared.due.Due.TheVariants.{Plan, Search, Values}
use Rattle.block.specs.Bytes.{wide}
use Rattle.block.specs.Fields.{tag_of, length_of, listed}

-- the body of the field that stands at an offset: after a tag and a length of two bytes
abbrev pub body_at : List ℕ → ℕ → Due → List ℕ
body_at input at due = take (length_of due) (drop (at + 3) input)

-- what is wrong with the field that is due at an offset
abbrev pub field_fault : List ℕ → ℕ → Due → Option Refusal
field_fault input at due =
    cond (nat_le (length input) at) (Some (Tag at))
    (cond (nat_lt (length input) (at + 3)) (Some (Cut at))
    (cond (not (slice_index input at == tag_of due)) (Some (Tag at))
    (cond (not (wide input (at + 1) == length_of due)) (Some (Form at))
    (cond (nat_lt (length input) (at + 3 + length_of due)) (Some (Cut at))
    (cond (not (listed due (body_at input at due))) (Some (Form at)) None)))))

-- the offsets of the three fields, and of what comes after them where the plan has `sent` sent bits
abbrev pub plan_at : ℕ
plan_at = 0

abbrev pub search_at : ℕ
search_at = 12

abbrev pub values_at : ℕ
values_at = 24

abbrev pub end_at : ℕ → ℕ
end_at sent = 27 + 2 * sent

-- bytes after the last field
abbrev pub tail_fault : List ℕ → ℕ → Option Refusal
tail_fault input at = cond (nat_lt at (length input)) (Some (Tag at)) None

abbrev pub first_of : Option Refusal → Option Refusal → Option Refusal
first_of (Some e) later = Some e
first_of None later = later

-- the sent bits that the plan field grants
abbrev pub sent_of : List ℕ → ℕ
sent_of input = wide (body_at input plan_at Plan) 3

abbrev pub file_fault : List ℕ → Option Refusal
file_fault input =
    first_of (field_fault input plan_at Plan)
    (first_of (field_fault input search_at Search)
    (first_of (field_fault input values_at (Values (sent_of input)))
    (tail_fault input (end_at (sent_of input)))))
