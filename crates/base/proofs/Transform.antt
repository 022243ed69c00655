-- Sums modulo 2 up to a bound, and the transform by halves from its subset sum. Assumes nothing.
use Rattle.std.proofs.Common.{◌≡◌, ℕ, zero, suc, ◌+◌, ◌*◌, ◌^◌, ◌<◌, Bool, true, false, ◌&&◌, eqb, sym, refl, ap, ◌∙◌, arith}
use mathlib.Core.Bool.{xor}
use lib.Bits.{bit_and, and_block, and_le_l}
use Rattle.std.proofs.lemmas.Bool.Decides.{nat_tests}
use Rattle.base.specs.Counts.{xor_below}
use Rattle.base.specs.Transform.{within, code_bit}

-- sums modulo 2 up to a bound

pub xor-below-same : (f g : ℕ → Bool) (n : ℕ) → ((j : ℕ) → j < n → f j ≡ g j) → xor_below f n ≡ xor_below g n
unfolding xor_below
xor-below-same f g zero h = refl
xor-below-same f g (suc n) h =
    let front : xor_below f n ≡ xor_below g n = xor-below-same f g n (λ j l. h j (omega arith)) in
    let last : f n ≡ g n = h n (omega arith) in
    cc

pub xor-below-none : (f : ℕ → Bool) (n : ℕ) → ((j : ℕ) → j < n → f j ≡ false) → xor_below f n ≡ false
unfolding xor_below xor
xor-below-none f zero h = refl
xor-below-none f (suc n) h =
    let front : xor_below f n ≡ false = xor-below-none f n (λ j l. h j (omega arith)) in
    let last : f n ≡ false = h n (omega arith) in
    rw (front, last)

pub xor_assoc : (a b c : Bool) → xor (xor a b) c ≡ xor a (xor b c)
unfolding xor
xor_assoc true true true = refl
xor_assoc true true false = refl
xor_assoc true false true = refl
xor_assoc true false false = refl
xor_assoc false true true = refl
xor_assoc false true false = refl
xor_assoc false false true = refl
xor_assoc false false false = refl

pub xor-false-l : (a : Bool) → xor false a ≡ a
unfolding xor
xor-false-l true = refl
xor-false-l false = refl

pub xor-false-r : (a : Bool) → xor a false ≡ a
unfolding xor
xor-false-r true = refl
xor-false-r false = refl

-- the numbers below m + k are those below m, and m added to those below k
pub xor-below-add : (f : ℕ → Bool) (m k : ℕ) → xor_below f (m + k) ≡ xor (xor_below f m) (xor_below (λ j. f (m + j)) k)
unfolding xor_below
xor-below-add f m zero =
    let e : m + 0 ≡ m = omega arith in
    ap (xor_below f) e ∙ sym (xor-false-r (xor_below f m))
xor-below-add f m (suc k) =
    let e : m + suc k ≡ suc (m + k) = omega arith in
    let front = xor-below-add f m k in
    ap (xor_below f) e ∙ ap (λ (b : Bool). xor b (f (m + k))) front ∙ xor_assoc (xor_below f m) (xor_below (λ j. f (m + j)) k) (f (m + k))

-- which binary ones a number of the upper half has

within_low : (n i j : ℕ) → i < 2 ^ n → j < 2 ^ n → within i (2 ^ n + j) ≡ within i j
within_low n i j hi hj =
    let e : bit_and (0 * 2 ^ n + i) (1 * 2 ^ n + j) ≡ bit_and 0 1 * 2 ^ n + bit_and i j = and_block n 0 1 i j hi hj in
    let p : 0 * 2 ^ n + i ≡ i = omega arith in
    let q : 1 * 2 ^ n + j ≡ 2 ^ n + j = omega arith in
    let r : 0 * 2 ^ n + bit_and i j ≡ bit_and i j = omega arith in
    let s : bit_and i (2 ^ n + j) ≡ bit_and i j = cc in
    ap (λ (x : ℕ). eqb x i) s

within-high-low : (n i j : ℕ) → i < 2 ^ n → j < 2 ^ n → within (2 ^ n + i) j ≡ false
within-high-low n i j hi hj =
    let e : bit_and (1 * 2 ^ n + i) (0 * 2 ^ n + j) ≡ bit_and 1 0 * 2 ^ n + bit_and i j = and_block n 1 0 i j hi hj in
    let p : 1 * 2 ^ n + i ≡ 2 ^ n + i = omega arith in
    let q : 0 * 2 ^ n + j ≡ j = omega arith in
    let r : 0 * 2 ^ n + bit_and i j ≡ bit_and i j = omega arith in
    let s : bit_and (2 ^ n + i) j ≡ bit_and i j = cc in
    let l = and_le_l i j in
    grind (arith, nat_tests)

within-high-high : (n i j : ℕ) → i < 2 ^ n → j < 2 ^ n → within (2 ^ n + i) (2 ^ n + j) ≡ within i j
within-high-high n i j hi hj =
    let e : bit_and (1 * 2 ^ n + i) (1 * 2 ^ n + j) ≡ bit_and 1 1 * 2 ^ n + bit_and i j = and_block n 1 1 i j hi hj in
    let p : 1 * 2 ^ n + i ≡ 2 ^ n + i = omega arith in
    let q : 1 * 2 ^ n + j ≡ 2 ^ n + j = omega arith in
    let r : 1 * 2 ^ n + bit_and i j ≡ 2 ^ n + bit_and i j = omega arith in
    let s : bit_and (2 ^ n + i) (2 ^ n + j) ≡ 2 ^ n + bit_and i j = cc in
    grind (arith, nat_tests)

-- a code bit depends on the block's own bits alone
pub code-bit-same : (n : ℕ) (u v : ℕ → Bool) (i : ℕ) → ((j : ℕ) → j < 2 ^ n → u j ≡ v j) → code_bit n u i ≡ code_bit n v i
code-bit-same n u v i h = xor-below-same (λ j. within i j && u j) (λ j. within i j && v j) (2 ^ n) (λ j l. ap (λ (b : Bool). within i j && b) (h j l))

-- code bits of the lower half add those of both halves
pub code-bit-low : (n : ℕ) (u : ℕ → Bool) (i : ℕ) → i < 2 ^ n → code_bit (suc n) u i ≡ xor (code_bit n u i) (code_bit n (λ k. u (2 ^ n + k)) i)
code-bit-low n u i hi =
    let e : 2 ^ suc n ≡ 2 ^ n + 2 ^ n = omega arith in
    let f : ℕ → Bool = λ j. within i j && u j in
    ap (xor_below f) e
    ∙ xor-below-add f (2 ^ n) (2 ^ n)
    ∙ ap (xor (xor_below f (2 ^ n)))
    (xor-below-same (λ j. f (2 ^ n + j)) (λ j. within i j && u (2 ^ n + j)) (2 ^ n) (λ j hj. ap (λ (b : Bool). b && u (2 ^ n + j)) (within_low n i j hi hj)))

-- code bits of the upper half are those of the second half alone
pub code-bit-high : (n : ℕ) (u : ℕ → Bool) (i : ℕ) → i < 2 ^ n → code_bit (suc n) u (2 ^ n + i) ≡ code_bit n (λ k. u (2 ^ n + k)) i
code-bit-high n u i hi =
    let e : 2 ^ suc n ≡ 2 ^ n + 2 ^ n = omega arith in
    let f : ℕ → Bool = λ j. within (2 ^ n + i) j && u j in
    let g : ℕ → Bool = λ j. within i j && u (2 ^ n + j) in
    let none : xor_below f (2 ^ n) ≡ false = xor-below-none f (2 ^ n) (λ j hj. ap (λ (b : Bool). b && u j) (within-high-low n i j hi hj)) in
    let same : xor_below (λ j. f (2 ^ n + j)) (2 ^ n) ≡ xor_below g (2 ^ n) = xor-below-same (λ j. f (2 ^ n + j)) g (2 ^ n) (λ j hj. ap (λ (b : Bool). b && u (2 ^ n + j)) (within-high-high n i j hi hj)) in
    ap (xor_below f) e
    ∙ xor-below-add f (2 ^ n) (2 ^ n)
    ∙ ap (λ (b : Bool). xor b (xor_below (λ j. f (2 ^ n + j)) (2 ^ n))) none
    ∙ xor-false-l (xor_below (λ j. f (2 ^ n + j)) (2 ^ n))
    ∙ same
