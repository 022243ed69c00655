-- Long division of polynomials over bits, the highest power first, and the remainder that checks are made of. Assumes nothing.
use Rattle.std.specs.Prelude.{ℕ, zero, suc, Bool, true, false, cond, not, ◌&&◌, ◌||◌, List, [], ◌∷◌, ◌++◌, length, replicate, ◌==◌}
use Rattle.std.specs.Bool.{xor}

unfoldable pub listed : List ℕ → ℕ → Bool
listed [] k = false
listed (p ∷ ps) k = p == k || listed ps k

-- the coefficients of the powers below l in a polynomial with the powers ps
unfoldable pub coefficients : List ℕ → ℕ → List Bool
coefficients ps zero = []
coefficients ps (suc l) = listed ps l ∷ coefficients ps l

-- ds added onto the front of a list of bits
unfoldable pub added : List Bool → List Bool → List Bool
added [] bs = bs
added (d ∷ ds) [] = []
added (d ∷ ds) (b ∷ bs) = xor d b ∷ added ds bs

-- n steps of long division by a one followed by ds: each takes the first bit away, and if it is one adds ds onto the next
unfoldable pub divided : List Bool → ℕ → List Bool → List Bool
divided ds zero bs = bs
divided ds (suc n) [] = []
divided ds (suc n) (b ∷ bs) = divided ds n (cond b (added ds bs) bs)

-- the remainder of payload × D^l by the divisor D^l + .. whose l lower coefficients are ds
abbrev pub remainder : List Bool → List Bool → List Bool
remainder ds payload = divided ds (length payload) (payload ++ replicate (length ds) false)

unfoldable pub same_bits : List Bool → List Bool → Bool
same_bits [] [] = true
same_bits [] (y ∷ ys) = false
same_bits (x ∷ xs) [] = false
same_bits (x ∷ xs) (y ∷ ys) = not (xor x y) && same_bits xs ys
