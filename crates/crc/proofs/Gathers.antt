-- Sums and tests over a word that was gathered through an order. Assumes nothing.
use Rattle.std.proofs.Common.{◌≡◌, ℕ, zero, suc, ◌<◌, Bool, false, ◌&&◌, eqb, ltb, List, [], ◌∷◌, map, length, get_or, refl, ap, ◌∙◌, ap₂, arith}
use mathlib.Core.Bool.{xor}
use Rattle.std.proofs.lemmas.Bool.Decides.{nat_tests}
use Rattle.std.proofs.lemmas.Bool.{le-ltb}
use Rattle.base.specs.Counts.{xor_below}
use Rattle.crc.specs.Spread.{sum_into, some_bit}
use Rattle.base.proofs.Transform.{xor-false-r}
use Rattle.crc.proofs.Occurrences.{occurrences}

sum-false : (f : ℕ → Bool) (ks : List ℕ) (bs : List Bool) → ((k : ℕ) → f k ≡ false) → sum_into f ks bs ≡ false
unfolding sum_into
sum-false f [] bs h = refl
sum-false f (k ∷ ks) [] h = refl
sum-false f (k ∷ ks) (b ∷ bs) h = ap₂ (λ x y. xor (x && b) y) (h k) (sum-false f ks bs h) ∙ xor-false-r false

sum-split : (f g h : ℕ → Bool) (ks : List ℕ) (bs : List Bool) → ((k : ℕ) → f k ≡ xor (g k) (h k))
    → sum_into f ks bs ≡ xor (sum_into g ks bs) (sum_into h ks bs)
unfolding sum_into xor
sum-split f g h [] bs e = refl
sum-split f g h (k ∷ ks) [] e = refl
sum-split f g h (k ∷ ks) (b ∷ bs) e = grind (arith, nat_tests, e k, sum-split f g h ks bs e)

sum-absent : (f g : ℕ → Bool) (n : ℕ) (ks : List ℕ) → occurrences n ks ≡ 0 → sum_into (λ k. eqb n k && f k) ks (map g ks) ≡ false
unfolding sum_into occurrences xor
sum-absent f g n [] h = refl
sum-absent f g n (k ∷ ks) h = grind (arith, nat_tests, sum-absent f g n ks)

sum-once : (f g : ℕ → Bool) (n : ℕ) (ks : List ℕ) → occurrences n ks ≡ 1
    → sum_into (λ k. eqb n k && f k) ks (map g ks) ≡ (f n && g n)
unfolding sum_into occurrences xor
sum-once f g n [] h = absurd (omega arith)
sum-once f g n (k ∷ ks) h = grind (arith, nat_tests, sum-once f g n ks, sum-absent f g n ks)

below_more : (f : ℕ → Bool) (n k : ℕ) → (ltb k (suc n) && f k) ≡ xor (ltb k n && f k) (eqb n k && f k)
unfolding xor
below_more f n k = grind (arith, nat_tests)

-- where each number below n occurs once, a sum through the order is the sum over the numbers
pub sum_below : (f g : ℕ → Bool) (ks : List ℕ) (n : ℕ) → ((k : ℕ) → k < n → occurrences k ks ≡ 1)
    → sum_into (λ k. ltb k n && f k) ks (map g ks) ≡ xor_below (λ k. f k && g k) n
unfolding xor_below
sum_below f g ks zero h = sum-false (λ k. ltb k 0 && f k) ks (map g ks) (λ k. ap (λ t. t && f k) (le-ltb k 0 (omega arith)))
sum_below f g ks (suc n) h =
    sum-split (λ k. ltb k (suc n) && f k) (λ k. ltb k n && f k) (λ k. eqb n k && f k) ks (map g ks) (below_more f n)
    ∙ ap₂ xor (sum_below f g ks n (λ k l. h k (omega arith))) (sum-once f g n ks (h n (omega arith)))

pub some-map : (f : ℕ → Bool → Bool) (g : ℕ → Bool) (ks : List ℕ) → ((k : ℕ) → f k (g k) ≡ false) → some_bit f ks (map g ks) ≡ false
unfolding some_bit
some-map f g [] h = refl
some-map f g (k ∷ ks) h = grind (arith, nat_tests, h k, some-map f g ks h)

pub some_at : (f : ℕ → Bool → Bool) (ks : List ℕ) (bs : List Bool) (m : ℕ) → some_bit f ks bs ≡ false → m < length ks → m < length bs
    → f (get_or ks m 0) (get_or bs m false) ≡ false
unfolding some_bit
some_at f [] bs m h l r = absurd (omega arith)
some_at f (k ∷ ks) [] m h l r = absurd (omega arith)
some_at f (k ∷ ks) (b ∷ bs) zero h l r = grind (arith, nat_tests)
some_at f (k ∷ ks) (b ∷ bs) (suc m) h l r = grind (arith, nat_tests, some_at f ks bs m)
