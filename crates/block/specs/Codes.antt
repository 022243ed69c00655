-- The codes of outer checks and candidate stores; a code that is not listed has none. Assumes nothing.
use Rattle.std.specs.Prelude.{◌≡◌, ℕ, cond, List, ◌++◌, codes, decimal, Some, None, Option, Ok, Err, Result, ◌==◌}
use Rattle.block.specs.declared.code.CheckCode.{CheckCode}
use Rattle.block.specs.declared.code.CheckCode.TheVariants as check
use Rattle.block.specs.declared.code.StoreCode.{StoreCode}
use Rattle.block.specs.declared.code.StoreCode.TheVariants as store
use Rattle.block.specs.declared.unlisted.Unlisted.{Unlisted}

abbrev pub check_of : ℕ → Option CheckCode
check_of code =
    cond (code == 0) (Some check.None)
    (cond (code == 6) (Some check.Trailing6)
    (cond (code == 11) (Some check.Trailing11)
    (cond (code == 4) (Some check.Spread4)
    (cond (code == 24) (Some check.Spread24) None))))

abbrev pub store_of : ℕ → Option StoreCode
store_of code = cond (code == 0) (Some store.Table) (cond (code == 1) (Some store.Heap) None)

-- what reading a code answers: what it names, or the code itself where it is not listed
abbrev pub Named : {A : Type 0} → (ℕ → Option A) → ℕ → Result A Unlisted → Type 0
Named of code (Ok named) = of code ≡ Some named
Named of code (Err e) = (of code ≡ None) × (e.0 ≡ code)

-- the check bits L of a check
abbrev pub check_bits : CheckCode → ℕ
check_bits check.None = 0
check_bits check.Trailing6 = 6
check_bits check.Trailing11 = 11
check_bits check.Spread4 = 4
check_bits check.Spread24 = 24

-- the longest payload H of a check
abbrev pub longest_payload : CheckCode → ℕ
longest_payload check.None = 512
longest_payload check.Trailing6 = 512
longest_payload check.Trailing11 = 512
longest_payload check.Spread4 = 8
longest_payload check.Spread24 = 140

-- the code of a check is L
abbrev pub check_code : CheckCode → ℕ
check_code c = check_bits c

abbrev pub store_code : StoreCode → ℕ
store_code store.Table = 0
store_code store.Heap = 1

abbrev pub check_name : CheckCode → List ℕ
check_name check.None = codes "none"
check_name check.Trailing6 = codes "trailing, 6 bits"
check_name check.Trailing11 = codes "trailing, 11 bits"
check_name check.Spread4 = codes "spread, 4 bits"
check_name check.Spread24 = codes "spread, 24 bits"

abbrev pub store_name : StoreCode → List ℕ
store_name store.Table = codes "table"
store_name store.Heap = codes "heap"

abbrev pub unlisted_text : Unlisted → List ℕ
unlisted_text e = codes "code " ++ (decimal (e.0) ++ codes " is not listed")
