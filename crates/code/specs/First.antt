-- The first number below a bound that passes a test. Assumes nothing.
use Rattle.std.specs.Prelude.{ℕ, zero, suc, Bool, cond, Some, None, Option}

abbrev pub earlier : Option ℕ → Option ℕ → Option ℕ
earlier (Some i) later = Some i
earlier None later = later

-- the least number below n that has p, if any has
unfoldable pub first_below : (ℕ → Bool) → ℕ → Option ℕ
first_below p zero = None
first_below p (suc n) = earlier (first_below p n) (cond (p n) (Some n) None)
