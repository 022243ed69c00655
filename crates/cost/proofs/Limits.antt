-- What it says that no soft value is out of range. Assumes nothing.
use Rattle.std.proofs.Common.{◌≡◌, ℕ, zero, suc, ◌≤◌, Bool, true, false, not, Option, List, [], ◌∷◌, length, get_or, ℤ, pos, nat_abs, sym, ap, ◌∙◌, zero-le, arith}
use Rattle.std.specs.List.{position_or_len}
use Rattle.std.specs.Option.{is_none, is_some}
use Rattle.std.proofs.lemmas.Bool.Decides.{nat_tests}
use Rattle.cost.specs.Limits.{is_beyond, first_beyond}

within : (xs : List ℤ) → length xs ≤ position_or_len is_beyond xs → (k : ℕ) → nat_abs (get_or xs k (pos 0)) ≤ 1048576
within [] e k = zero-le
within (x ∷ xs) e zero = grind (arith, nat_tests)
within (x ∷ xs) e (suc k) = let rest : length xs ≤ position_or_len is_beyond xs = grind (arith, nat_tests) in within xs rest k

pub none-beyond : (xs : List ℤ) → is_none (first_beyond xs) ≡ true → (k : ℕ) → nat_abs (get_or xs k (pos 0)) ≤ 1048576
none-beyond xs none = within xs (grind (arith, nat_tests))

-- as a test of the answer says it
pub not_some : {o p : Option ℕ} {b : Bool} → o ≡ p → b ≡ is_some o → b ≡ false → is_none p ≡ true
not_some same test off = ap is_none (sym same) ∙ ap not (sym test ∙ off)
