-- What the test of lengths tells. Assumes nothing.
use Rattle.std.proofs.Common.{◌≡◌, ℕ, ◌+◌, ◌≤◌, true, false, is_ok, OnOk, Result, Ok, Err, sym, arith}
use Rattle.std.proofs.lemmas.Bool.Decides.{nat_tests}
use Rattle.crc.specs.Lengths.{fitting}

pub fitting-tells : (h l a k : ℕ) → fitting h l a k ≡ true → (a ≤ h) × (k ≡ a + l)
fitting-tells h l a k e = grind (arith, nat_tests)

pub fitting-from : (h l a k : ℕ) → a ≤ h → k ≡ a + l → fitting h l a k ≡ true
fitting-from h l a k p q = grind (arith, nat_tests)

pub fitting-not : (h l a k : ℕ) → fitting h l a k ≡ false → a ≤ h → k ≡ a + l → ⊥
fitting-not h l a k e p q = grind (arith, nat_tests)

-- what a check promises of an Ok, at lengths that fit
pub fitting-answered : {E P : Type 0} (h l a k : ℕ) (r : Result (Unit {0}) E) → is_ok r ≡ fitting h l a k → a ≤ h → k ≡ a + l → OnOk r P → P
fitting-answered h l a k (Ok u) e p q done = done
fitting-answered h l a k (Err x) e p q done = absurd (fitting-not h l a k (sym e) p q)
