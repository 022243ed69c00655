-- What the reader answers: the field or the whole file as parts of the input, or the first fault. Assumes nothing.
use Rattle.std.specs.Prelude.{◌≡◌, ℕ, if◌then◌else◌, List, length, Some, None, Ok, Err, Result}
use Rattle.base.specs.declared.refusal.Refusal.{Refusal}
use Rattle.base.specs.declared.refusal.Refusal.TheVariants.{Form}
use Rattle.block.specs.declared.due.Due.{Due}
use Rattle.block.specs.declared.due.Due.TheVariants as due
use Rattle.block.specs.declared.field.Field.{Field}
use Rattle.block.specs.declared.reader.Block.{Block}
use Rattle.block.specs.Fields.{length_of, listed, PlanHolds, SearchHolds}
use Rattle.block.specs.File.{body_at, field_fault, file_fault, plan_at, search_at, values_at, sent_of}

-- the field that is due, with its body as a part of the input and its place
pub record FieldIs (input : List ℕ) (offset : ℕ) (wanted : Due) (f : Field) : Type 0 where
  pub due : f.due ≡ wanted
  pub body : f.body.now ≡ body_at input offset wanted
  pub at : f.at ≡ offset

-- the field that is due, of which only the codes may be wrong; or the first fault
abbrev pub Framed : List ℕ → ℕ → Due → Result Field Refusal → Type 0
Framed input at due (Ok f) =
    FieldIs input at due f × (length (body_at input at due) ≡ length_of due)
    × (field_fault input at due ≡ (if listed due (body_at input at due) then None else Some (Form at)))
Framed input at due (Err e) = field_fault input at due ≡ Some e

abbrev pub FieldRead : List ℕ → ℕ → Due → Result Field Refusal → Type 0
FieldRead input at due (Ok f) = (field_fault input at due ≡ None) × FieldIs input at due f
FieldRead input at due (Err e) = field_fault input at due ≡ Some e

-- the field that is due with its numbers, or the first fault
abbrev pub NumbersAt : {N : Type 0} → Due → (List ℕ → N → Type 0) → List ℕ → ℕ → Result (Field × N) Refusal → Type 0
NumbersAt due Holds input at (Ok part) =
    (field_fault input at due ≡ None) × FieldIs input at due part.0 × Holds (body_at input at due) part.1
NumbersAt due Holds input at (Err e) = field_fault input at due ≡ Some e

pub record FileIs (input : List ℕ) (b : Block) : Type 0 where
  pub plan-field : FieldIs input plan_at due.Plan b.fields.plan
  pub search-field : FieldIs input search_at due.Search b.fields.search
  pub values-field : FieldIs input values_at (due.Values (sent_of input)) b.fields.values
  pub plan : PlanHolds (body_at input plan_at due.Plan) b.plan
  pub search : SearchHolds (body_at input search_at due.Search) b.search

abbrev pub FileRead : List ℕ → Result Block Refusal → Type 0
FileRead input (Ok b) = (file_fault input ≡ None) × FileIs input b
FileRead input (Err e) = file_fault input ≡ Some e
