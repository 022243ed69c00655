-- The spread check: the check bits stand among the payload bits, each as soon as all that enter it have come. Assumes nothing.
use Rattle.std.specs.Prelude.{ℕ, zero, suc, ◌+◌, ◌-◌, Bool, true, false, cond, not, ◌&&◌, ◌||◌, leb, List, [], ◌∷◌, ◌++◌, map, length, get_or, replicate, filter, ◌==◌, nat_le, nat_lt, slice_index_or}
use Rattle.std.specs.Bool.{xor}
use Rattle.base.specs.Counts.{any_below}
use Rattle.std.specs.List.{range_with_len}
use Rattle.crc.specs.Division.{coefficients, remainder}
use Rattle.crc.specs.Lengths.{fitting}
use Rattle.crc.specs.declared.spread.Spread.{Spread}
use Rattle.crc.specs.declared.spread.Spread.TheVariants.{Four, TwentyFour}

abbrev pub width : Spread → ℕ
width Four = 4
width TwentyFour = 24

abbrev pub longest : Spread → ℕ
longest Four = 8
longest TwentyFour = 140

-- the powers of the divisor
abbrev pub powers : Spread → List ℕ
powers Four = 4 ∷ 2 ∷ 0 ∷ []
powers TwentyFour = 24 ∷ 23 ∷ 21 ∷ 20 ∷ 17 ∷ 15 ∷ 13 ∷ 12 ∷ 8 ∷ 4 ∷ 2 ∷ 1 ∷ 0 ∷ []

abbrev pub divisor : Spread → List Bool
divisor c = coefficients (powers c) (width c)

-- the payload of h bits of which bit i alone is one
abbrev pub single : ℕ → ℕ → List Bool
single h i = replicate i false ++ true ∷ replicate (h - 1 - i) false

-- row i has a one for each check bit that bit i of the longest payload enters
unfoldable pub rows : Spread → List (List Bool)
rows c = map (λ i. remainder (divisor c) (single (longest c) i)) (range_with_len 0 (longest c))

unfoldable pub enters : List (List Bool) → ℕ → ℕ → Bool
enters rs i j = slice_index_or (slice_index_or rs i []) j false

-- The order is a list of indices into payload ++ check bits.
-- Before check bit j come the payload bits that enter it and no earlier check bit, ascending.
unfoldable pub placed : List (List Bool) → ℕ → List ℕ
placed rs zero = []
placed rs (suc j) =
    placed rs j
    ++ (filter (λ i. enters rs i j && not (any_below (enters rs i) j)) (range_with_len 0 (length rs)) ++ (length rs + j) ∷ [])

-- the first s payload bits are struck out and the rest renumbered
unfoldable pub struck : ℕ → List ℕ → List ℕ
struck s ks = map (λ k. k - s) (filter (λ k. leb s k) ks)

-- the order for payloads of a bits
unfoldable pub order : Spread → ℕ → List ℕ
order c a = struck (longest c - a) (placed (rows c) (width c))

unfoldable pub interleaved : Spread → List Bool → List Bool
interleaved c payload = map (λ k. get_or (payload ++ remainder (divisor c) payload) k false) (order c (length payload))

-- where k stands in a list, or its length
unfoldable pub place_of : ℕ → List ℕ → ℕ
place_of k [] = 0
place_of k (x ∷ xs) = cond (k == x) 0 (suc (place_of k xs))

unfoldable pub deinterleaved : Spread → ℕ → List Bool → List Bool
deinterleaved c a word = map (λ i. get_or word (place_of i (order c a)) false) (range_with_len 0 a)

-- the sum of those bits of a beginning that carry an index with f
unfoldable pub sum_into : (ℕ → Bool) → List ℕ → List Bool → Bool
sum_into f [] bs = false
sum_into f (k ∷ ks) [] = false
sum_into f (k ∷ ks) (b ∷ bs) = xor (f k && b) (sum_into f ks bs)

-- some bit of a beginning fails a test of its index and itself
unfoldable pub some_bit : (ℕ → Bool → Bool) → List ℕ → List Bool → Bool
some_bit f [] bs = false
some_bit f (k ∷ ks) [] = false
some_bit f (k ∷ ks) (b ∷ bs) = f k b || some_bit f ks bs

-- payload bit i of a enters check bit j
unfoldable pub enters_at : Spread → ℕ → ℕ → ℕ → Bool
enters_at c a j i = nat_lt i a && enters (rows c) (longest c - a + i) j

-- a bit is check bit k - a and disagrees with the payload bits of the beginning that enter it
unfoldable pub disagrees : Spread → ℕ → List Bool → ℕ → Bool → Bool
disagrees c a beginning k b = nat_le a k && xor b (sum_into (enters_at c a (k - a)) (order c a) beginning)

unfoldable pub broken : Spread → ℕ → List Bool → Bool
broken c a beginning = nat_le a (longest c) && some_bit (disagrees c a beginning) (order c a) beginning

unfoldable pub sound : Spread → ℕ → List Bool → Bool
sound c a word = fitting (longest c) (width c) a (length word) && not (broken c a word)
