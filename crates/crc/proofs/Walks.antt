-- A beginning judged bit by bit with running sums, which is how the code judges it: that is the definition's test where
-- every payload bit that enters a check bit stands before it. Assumes nothing.
use Rattle.std.proofs.Common.{◌≡◌, ℕ, zero, suc, ◌+◌, ◌-◌, ◌≤◌, Bool, true, false, not, ◌&&◌, ◌||◌, ltb, leb, List, [], ◌∷◌, take, refl, ap, ◌∙◌, ap₂, arith}
use mathlib.Core.Bool.{xor}
use Rattle.std.proofs.lemmas.Bool.Decides.{nat_tests}
use Rattle.std.proofs.lemmas.Bool.{and_parts, not-true}
use Rattle.crc.specs.Spread.{struck, sum_into, some_bit}
use Rattle.base.proofs.Transform.{xor_assoc}
use Rattle.crc.proofs.Occurrences.{struck-in, struck-out, struck-nil}

-- a is the number of payload bits, M j k says whether payload bit k enters check bit j, acc has the sums so far
unfoldable pub walk : ℕ → (ℕ → ℕ → Bool) → (ℕ → Bool) → List ℕ → List Bool → Bool
walk a M acc [] bs = false
walk a M acc (k ∷ ks) [] = false
walk a M acc (k ∷ ks) (b ∷ bs) = (leb a k && xor b (acc (k - a))) || walk a M (λ j. xor (acc j) (M j k && b)) ks bs

unfoldable pub none_has : (ℕ → Bool) → List ℕ → Bool
none_has f [] = true
none_has f (k ∷ ks) = not (f k) && none_has f ks

-- no payload bit stands after a check bit that it enters
unfoldable pub settled : ℕ → (ℕ → ℕ → Bool) → List ℕ → Bool
settled a M [] = true
settled a M (k ∷ ks) = (ltb k a || none_has (M (k - a)) ks) && settled a M ks

pub walk_same : (a : ℕ) (M : ℕ → ℕ → Bool) (p q : ℕ → Bool) (ks : List ℕ) (bs : List Bool) → ((j : ℕ) → p j ≡ q j)
    → walk a M p ks bs ≡ walk a M q ks bs
unfolding walk
walk_same a M p q [] bs h = refl
walk_same a M p q (k ∷ ks) [] h = refl
walk_same a M p q (k ∷ ks) (b ∷ bs) h =
    ap₂ (λ x y. (leb a k && xor b x) || y) (h (k - a))
    (walk_same a M (λ j. xor (p j) (M j k && b)) (λ j. xor (q j) (M j k && b)) ks bs (λ j. ap (λ x. xor x (M j k && b)) (h j)))

pub some_same : (f g : ℕ → Bool → Bool) (ks : List ℕ) (bs : List Bool) → ((k : ℕ) (b : Bool) → f k b ≡ g k b)
    → some_bit f ks bs ≡ some_bit g ks bs
unfolding some_bit
some_same f g [] bs h = refl
some_same f g (k ∷ ks) [] h = refl
some_same f g (k ∷ ks) (b ∷ bs) h = ap₂ (λ x y. x || y) (h k b) (some_same f g ks bs h)

pub sum-none : (f : ℕ → Bool) (ks : List ℕ) (bs : List Bool) → none_has f ks ≡ true → sum_into f ks bs ≡ false
unfolding sum_into none_has xor
sum-none f [] bs h = refl
sum-none f (k ∷ ks) [] h = refl
sum-none f (k ∷ ks) (b ∷ bs) h =
    let p = and_parts (not (f k)) (none_has f ks) h in
    ap₂ (λ x y. xor (x && b) y) (not-true (f k) p.0) (sum-none f ks bs p.1)

-- the first bit of a walk against the definition's test
first_bit : (a k : ℕ) (M : ℕ → ℕ → Bool) (acc : ℕ → Bool) (ks : List ℕ) (b : Bool) (bs : List Bool)
    → ((j i : ℕ) → a ≤ i → M j i ≡ false) → (ltb k a || none_has (M (k - a)) ks) ≡ true
    → (leb a k && xor b (acc (k - a))) ≡ (leb a k && xor b (xor (acc (k - a)) (xor (M (k - a) k && b) (sum_into (M (k - a)) ks bs))))
unfolding xor
first_bit a k M acc ks b bs m h = grind (arith, nat_tests, m, sum-none)

pub walk-some : (a : ℕ) (M : ℕ → ℕ → Bool) (acc : ℕ → Bool) (ks : List ℕ) (bs : List Bool)
    → ((j i : ℕ) → a ≤ i → M j i ≡ false) → settled a M ks ≡ true
    → walk a M acc ks bs ≡ some_bit (λ k b. leb a k && xor b (xor (acc (k - a)) (sum_into (M (k - a)) ks bs))) ks bs
unfolding walk some_bit settled sum_into
walk-some a M acc [] bs m h = refl
walk-some a M acc (k ∷ ks) [] m h = refl
walk-some a M acc (k ∷ ks) (b ∷ bs) m h =
    let p = and_parts (ltb k a || none_has (M (k - a)) ks) (settled a M ks) h in
    ap₂ (λ x y. x || y) (first_bit a k M acc ks b bs m p.0)
    (walk-some a M (λ j. xor (acc j) (M j k && b)) ks bs m p.1
    ∙ some_same
    (λ k' b'. leb a k' && xor b' (xor (xor (acc (k' - a)) (M (k' - a) k && b)) (sum_into (M (k' - a)) ks bs)))
    (λ k' b'. leb a k' && xor b' (xor (acc (k' - a)) (xor (M (k' - a) k && b) (sum_into (M (k' - a)) ks bs)))) ks bs
    (λ k' b'. ap (λ x. leb a k' && xor b' x) (xor_assoc (acc (k' - a)) (M (k' - a) k && b) (sum_into (M (k' - a)) ks bs))))

-- nothing is broken in a beginning of what is not broken
pub walk-take : (a : ℕ) (M : ℕ → ℕ → Bool) (acc : ℕ → Bool) (ks : List ℕ) (bs : List Bool) (m : ℕ)
    → walk a M acc ks bs ≡ false → walk a M acc ks (take m bs) ≡ false
unfolding walk
walk-take a M acc [] bs m h = refl
walk-take a M acc (k ∷ ks) bs zero h = refl
walk-take a M acc (k ∷ ks) [] (suc m) h = refl
walk-take a M acc (k ∷ ks) (b ∷ bs) (suc m) h = grind (arith, nat_tests, walk-take a M (λ j. xor (acc j) (M j k && b)) ks bs m)

none-struck : (s : ℕ) (f g : ℕ → Bool) (ks : List ℕ) → ((k : ℕ) → s ≤ k → g (k - s) ≡ f k) → none_has f ks ≡ true
    → none_has g (struck s ks) ≡ true
unfolding none_has
none-struck s f g [] e h = ap (none_has g) (struck-nil s)
none-struck s f g (k ∷ ks) e h = grind (arith, nat_tests, struck-in s k ks, struck-out s k ks, e k, none-struck s f g ks e)

pub settled-struck : (s a h : ℕ) (M N : ℕ → ℕ → Bool) (ks : List ℕ) → s + a ≡ h
    → ((j k : ℕ) → s ≤ k → N j (k - s) ≡ M j k) → settled h M ks ≡ true → settled a N (struck s ks) ≡ true
unfolding settled
settled-struck s a h M N [] q e t = ap (settled a N) (struck-nil s)
settled-struck s a h M N (k ∷ ks) q e t =
    let j : k - s - a ≡ k - h = omega arith in
    grind (arith, nat_tests, struck-in s k ks, struck-out s k ks, j, none-struck s (M (k - h)) (N (k - h)) ks (e (k - h)), settled-struck s a h M N ks q e)
