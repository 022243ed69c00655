-- What the checklist says of a block file: the first refusal of file or plan, or the plan; and the soft values present
-- against the grant. Assumes nothing.
use Rattle.std.specs.Prelude.{◌≡◌, ℕ, ◌-◌, ◌/◌, cond, List, ◌++◌, length, codes, decimal, is_some, Some, None, Option, Ok, Err, Result, ◌==◌}
use Rattle.plan.specs.Plans.{Planned}
use Rattle.plan.specs.Requests.{verdict}
use Rattle.block.specs.declared.due.Due.TheVariants as due
use Rattle.block.specs.Fields.{PlanHolds, SearchHolds, request_of}
use Rattle.block.specs.File.{body_at, field_fault, file_fault, plan_at, search_at, sent_of}
use Rattle.inspect.specs.declared.sheet.Sheet.{Sheet}
use Rattle.inspect.specs.declared.sheet.BadSheet.{BadSheet}
use Rattle.inspect.specs.declared.sheet.BadSheet.TheVariants.{File, Plan}
use Rattle.inspect.specs.declared.sheet.SoftCount.{SoftCount}

-- the values of two bytes each after the header of the third field, against a grant
abbrev pub granted_soft : List ℕ → ℕ → SoftCount
granted_soft input granted = record { present = (length input - 27) / 2; granted = granted }

-- the values that are there, and how many the plan field grants
abbrev pub soft_count : List ℕ → SoftCount
soft_count input = granted_soft input (sent_of input)

-- line A, under the place where the values stand
abbrev pub soft_text : SoftCount → List ℕ
soft_text count =
    codes "field values at 24\nA soft values: " ++ (decimal count.present ++ (codes " present, " ++ (decimal count.granted ++ (codes " granted: "
    ++ (cond (count.present == count.granted) (codes "as granted") (codes "NOT as granted") ++ codes "\n")))))

-- the count is there where the fields before the values have no fault
abbrev pub counted_soft : List ℕ → Option SoftCount
counted_soft input =
    cond (is_some (field_fault input plan_at due.Plan)) None
    (cond (is_some (field_fault input search_at due.Search)) None (Some (soft_count input)))

abbrev pub SheetOf : List ℕ → Result Sheet BadSheet → Type 0
SheetOf input (Ok sheet) =
    (file_fault input ≡ None) × PlanHolds (body_at input plan_at due.Plan) sheet.numbers
    × SearchHolds (body_at input search_at due.Search) sheet.limits
    × Planned (request_of sheet.numbers) sheet.plan × (sheet.soft ≡ soft_count input)
SheetOf input (Err (File fault soft)) = (file_fault input ≡ Some fault) × (soft ≡ counted_soft input)
SheetOf input (Err (Plan fault numbers soft)) =
    (file_fault input ≡ None) × PlanHolds (body_at input plan_at due.Plan) numbers
    × (verdict (request_of numbers) ≡ Some fault) × (soft ≡ soft_count input)
