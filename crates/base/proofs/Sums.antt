-- Laws of sums over the numbers below a bound. Assumes nothing.
use Rattle.std.proofs.Common.{◌≡◌, ℕ, zero, suc, ◌+◌, ◌-◌, ◌*◌, ◌<◌, ◌≤◌, sym, refl, ap, ◌∙◌, ap₂, zero-le, add-zero, add-suc, suc-mul, arith}
use Rattle.base.specs.Counts.{sum_below}

-- the sum over m + k numbers is that over the first m and that over the k after them
pub sum-split : (h : ℕ → ℕ) (m k : ℕ) → sum_below h (m + k) ≡ sum_below h m + sum_below (λ j. h (m + j)) k
unfolding sum_below
sum-split h m zero = ap (sum_below h) (add-zero m) ∙ sym (add-zero (sum_below h m))
sum-split h m (suc k) = rw add-suc (omega (arith, sum-split h m k))

pub sum-add : (a b : ℕ → ℕ) (n : ℕ) → sum_below (λ k. a k + b k) n ≡ sum_below a n + sum_below b n
unfolding sum_below
sum-add a b zero = refl
sum-add a b (suc n) = omega (arith, sum-add a b n)

pub sum_same : (a b : ℕ → ℕ) (n : ℕ) → ((k : ℕ) → k < n → a k ≡ b k) → sum_below a n ≡ sum_below b n
unfolding sum_below
sum_same a b zero same = refl
sum_same a b (suc n) same =
    ap₂ ◌+◌ (sum_same a b n (λ k h. same k (omega arith))) (same n (omega arith))

pub sum-le : (a b : ℕ → ℕ) (n : ℕ) → ((k : ℕ) → k < n → a k ≤ b k) → sum_below a n ≤ sum_below b n
unfolding sum_below
sum-le a b zero le = omega arith
sum-le a b (suc n) le = omega (arith, sum-le a b n (λ k h. le k (omega arith)), le n (omega arith))

pub sum-rises : (h : ℕ → ℕ) (i j : ℕ) → i ≤ j → sum_below h i ≤ sum_below h j
sum-rises h i j le =
    let e : i + (j - i) ≡ j = omega arith in
    omega (arith, sym (ap (sum_below h) e) ∙ sum-split h i (j - i))

-- where a sum is 0, so is each summand
pub sum-none : (h : ℕ → ℕ) (n : ℕ) → sum_below h n ≡ 0 → (k : ℕ) → k < n → h k ≡ 0
unfolding sum_below
sum-none h n e k lt = omega (arith, sum-rises h (suc k) n lt)

pub sum-of-none : (h : ℕ → ℕ) (n : ℕ) → ((k : ℕ) → k < n → h k ≡ 0) → sum_below h n ≡ 0
unfolding sum_below
sum-of-none h zero none = refl
sum-of-none h (suc n) none = omega (arith, sum-of-none h n (λ k lt. none k (omega arith)), none n (omega arith))

pub sum-most : (h : ℕ → ℕ) (m n : ℕ) → ((k : ℕ) → k < n → h k ≤ m) → sum_below h n ≤ n * m
unfolding sum_below
sum-most h m zero most = zero-le
sum-most h m (suc n) most =
    omega (arith, sum-most h m n (λ k lt. most k (omega arith)), most n (omega arith), suc-mul n m)
