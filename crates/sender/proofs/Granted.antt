-- The file of a request has no fault. Assumes nothing.
use Rattle.std.proofs.Common.{◌≡◌, ℕ, ◌+◌, ◌*◌, ◌/◌, ◌%◌, ◌<◌, ◌≤◌, true, not, ◌&&◌, eqb, List, length, is_some, None, refl, ap, ◌∙◌, arith}
use Rattle.std.proofs.lemmas.Bool.Decides.{nat_tests}
use Rattle.block.proofs.LaidOut.{laid-out-files-are-granted}
use Rattle.block.specs.Bytes.{wide}
use Rattle.block.specs.Codes.{check_of, store_of, check_code, store_code}
use Rattle.block.specs.Fields.{sound}
use Rattle.block.specs.File.{file_fault}
use Rattle.block.specs.declared.code.CheckCode.{CheckCode}
use Rattle.block.specs.declared.code.CheckCode.TheVariants as check
use Rattle.block.specs.declared.code.StoreCode.{StoreCode}
use Rattle.block.specs.declared.code.StoreCode.TheVariants as store
use Rattle.block.specs.declared.due.Due.TheVariants.{Values}
use Rattle.block.specs.declared.numbers.PlanNumbers.{PlanNumbers}
use Rattle.sender.specs.Images.{plan_body, search_body, values_body, image_of}
use Rattle.sender.proofs.Received.{value-bytes-length}
use Rattle.sender.specs.declared.request.Request.{Request}

check-listed : (code : CheckCode) → is_some (check_of (check_code code)) ≡ true
check-listed check.None = refl
check-listed check.Trailing6 = refl
check-listed check.Trailing11 = refl
check-listed check.Spread4 = refl
check-listed check.Spread24 = refl

store-listed : (code : StoreCode) (words : ℕ) → 0 < words → (is_some (store_of (store_code code)) && not (eqb words 0)) ≡ true
store-listed store.Table words l = grind (arith, nat_tests)
store-listed store.Heap words l = grind (arith, nat_tests)

values-sound : (p : PlanNumbers) (values : List ℕ) → p.sent ≤ 8192 → length values ≡ 2 * p.sent
    → sound (Values (wide (plan_body p) 3)) values ≡ true
values-sound p values few size =
    let back : p.sent / 256 % 256 * 256 + p.sent % 256 ≡ p.sent = omega arith in
    grind (arith, nat_tests)

pub image-granted : (request : Request) (bits : List ℕ) → length bits ≡ request.plan.sent → request.plan.sent ≤ 8192
    → file_fault (image_of request bits) ≡ None
image-granted request bits count few =
    laid-out-files-are-granted (image_of request bits) (plan_body request.plan) (search_body request.search) (values_body request bits)
    (record {
      whole = refl;
      plan-sound = check-listed request.plan.check;
      limits-sound = store-listed request.search.store request.search.words request.wanted;
      values-sound = values-sound request.plan (values_body request bits) few
          (value-bytes-length _ _ (length bits) ∙ ap (λ (n : ℕ). 2 * n) count);
    })
