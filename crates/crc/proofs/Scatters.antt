-- A word written bit by bit to the indices that an order names. Assumes nothing.
use Rattle.std.proofs.Common.{◌≡◌, ℕ, ◌<◌, ◌≤◌, Bool, false, List, [], ◌∷◌, map, length, get_or, set, refl, ◌∙◌, arith, length-set}
use Rattle.std.proofs.lemmas.List.{get_or-set_same, get_or-set_other}
use Rattle.std.proofs.lemmas.Bool.Decides.{nat_tests}
use Rattle.crc.proofs.Occurrences.{occurrences}

unfoldable pub scattered : List ℕ → List Bool → List Bool → List Bool
scattered [] bs out = out
scattered (k ∷ ks) [] out = out
scattered (k ∷ ks) (b ∷ bs) out = scattered ks bs (set out k b)

pub length-scattered : (ks : List ℕ) (bs out : List Bool) → length (scattered ks bs out) ≡ length out
unfolding scattered
length-scattered [] bs out = refl
length-scattered (k ∷ ks) [] out = refl
length-scattered (k ∷ ks) (b ∷ bs) out = length-scattered ks bs (set out k b) ∙ length-set out k b

-- what is not written anew stays
pub scattered-kept : (g : ℕ → Bool) (ks : List ℕ) (out : List Bool) (i : ℕ) → i < length out → get_or out i false ≡ g i
    → get_or (scattered ks (map g ks) out) i false ≡ g i
unfolding scattered
scattered-kept g [] out i l h = h
scattered-kept g (k ∷ ks) out i l h = grind (arith, nat_tests, length-set out k (g k), get_or-set_same out k (g k) false, get_or-set_other out k i (g k) false, scattered-kept g ks (set out k (g k)) i)

pub scattered-at : (g : ℕ → Bool) (ks : List ℕ) (out : List Bool) (i : ℕ) → i < length out → 1 ≤ occurrences i ks
    → get_or (scattered ks (map g ks) out) i false ≡ g i
unfolding scattered occurrences
scattered-at g [] out i l h = absurd (omega arith)
scattered-at g (k ∷ ks) out i l h = grind (arith, nat_tests, length-set out k (g k), get_or-set_same out k (g k) false, scattered-kept g ks (set out k (g k)) i, scattered-at g ks (set out k (g k)) i)
