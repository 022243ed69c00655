-- A list of zeros. Assumes nothing.
use Rattle.std.proofs.Common.{◌≡◌, ℕ, zero, suc, ◌≤◌, List, get_or, replicate, ℤ, pos, nat_abs, refl, ap, ◌∙◌, arith}

pub zeros : (n k : ℕ) → get_or (replicate n (pos 0)) k (pos 0) ≡ pos 0
zeros zero k = refl
zeros (suc n) zero = refl
zeros (suc n) (suc k) = zeros n k

pub silent : (xs : List ℤ) → xs ≡ replicate 1024 (pos 0) → (k : ℕ) → get_or xs k (pos 0) ≡ pos 0
silent xs e k = ap (λ l. get_or l k (pos 0)) e ∙ zeros 1024 k

pub silent-bounded : (xs : List ℤ) → xs ≡ replicate 1024 (pos 0) → (k : ℕ) → nat_abs (get_or xs k (pos 0)) ≤ 1048576
silent-bounded xs e k = rw (silent xs e k) (omega arith)
