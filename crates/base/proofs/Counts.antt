-- Laws of tests, counts and sums over the numbers below a bound, with the pigeonhole lemma. Assumes nothing.
use Rattle.std.proofs.Common.{◌≡◌, ℕ, zero, suc, ◌+◌, ◌<◌, ◌≤◌, Bool, true, false, cond, ◌&&◌, eqb, ltb, leb, sym, refl, ap, ◌∙◌, ap₂, inl, inr, arith}
use Rattle.std.proofs.lemmas.Bool.{and_parts, and_from, and_right, le-leb, lt-leb, or_cases, or_left, or_right, or_from, cases_lt, cases_Bool, both_ways, eqb-true, lt-ltb}
use Rattle.std.proofs.lemmas.Bool.Decides.{nat_tests}
use Rattle.base.specs.Counts.{all_below, any_below, count_below, sum_below}

and-true : (b : Bool) → (b && true) ≡ b
and-true true = refl
and-true false = refl

and-false : (b : Bool) → (b && false) ≡ false
and-false true = refl
and-false false = refl

-- a computed test, at each number
pub all-at : (p : ℕ → Bool) (n : ℕ) → all_below p n ≡ true → (k : ℕ) → k < n → p k ≡ true
unfolding all_below
all-at p zero h k l = absurd (omega arith)
all-at p (suc n) h k l =
    elim (cases_lt k n) [
      | inl s ↦ all-at p n (and_parts (all_below p n) (p n) h).0 k s
      | inr s ↦ (let e : k ≡ n = omega arith in ap p e ∙ (and_parts (all_below p n) (p n) h).1)
    ]

pub all_from : (p : ℕ → Bool) (n : ℕ) → ((k : ℕ) → k < n → p k ≡ true) → all_below p n ≡ true
unfolding all_below
all_from p zero h = refl
all_from p (suc n) h = and_from (all_below p n) (p n) (all_from p n (λ k l. h k (omega arith))) (h n (omega arith))

pub any-from : (p : ℕ → Bool) (n k : ℕ) → k < n → p k ≡ true → any_below p n ≡ true
unfolding any_below
any-from p zero k l h = absurd (omega arith)
any-from p (suc n) k l h =
    elim (cases_lt k n) [
      | inl s ↦ or_left (any_below p n) (p n) (any-from p n k s h)
      | inr s ↦ (let e : n ≡ k = omega arith in or_right (any_below p n) (p n) (ap p e ∙ h))
    ]

pub any_at : (p : ℕ → Bool) (n : ℕ) → any_below p n ≡ true → (k : ℕ) × (k < n) × (p k ≡ true)
unfolding any_below
any_at p zero h = absurd (both_ways false refl h)
any_at p (suc n) h =
    elim (or_cases (any_below p n) (p n) h) [
      | inl s ↦ (let r = any_at p n s in (r.0, omega (arith, r.1), r.2))
      | inr s ↦ (n, omega arith, s)
    ]

pub any_none : (p : ℕ → Bool) (n : ℕ) → ((k : ℕ) → k < n → p k ≡ false) → any_below p n ≡ false
unfolding any_below
any_none p zero h = refl
any_none p (suc n) h = or_from (any_below p n) (p n) (any_none p n (λ k l. h k (omega arith))) (h n (omega arith))

pub any-absent : (p : ℕ → Bool) (n : ℕ) → any_below p n ≡ false → (k : ℕ) → k < n → p k ≡ false
any-absent p n h k l =
    elim (cases_Bool (p k)) [
      | inl s ↦ absurd (both_ways (any_below p n) h (any-from p n k l s))
      | inr s ↦ s
    ]

-- two tests of any agree where each number of one has a number of the other
pub any_same : (p q : ℕ → Bool) (m n : ℕ)
    → ((k : ℕ) → k < m → p k ≡ true → any_below q n ≡ true)
    → ((k : ℕ) → k < n → q k ≡ true → any_below p m ≡ true) → any_below p m ≡ any_below q n
any_same p q m n f g =
    elim (cases_Bool (any_below p m)) [
      | inl s ↦ (let r = any_at p m s in s ∙ sym (f r.0 r.1 r.2))
      | inr s ↦ elim (cases_Bool (any_below q n)) [
        | inl t ↦ (let r = any_at q n t in absurd (both_ways (any_below p m) s (g r.0 r.1 r.2)))
        | inr t ↦ s ∙ sym t
      ]
    ]

pub count_same : (p q : ℕ → Bool) (n : ℕ) → ((k : ℕ) → k < n → p k ≡ q k) → count_below p n ≡ count_below q n
unfolding count_below
count_same p q zero h = refl
count_same p q (suc n) h =
    ap₂ (λ a b. a + cond b 1 0) (count_same p q n (λ k l. h k (omega arith))) (h n (omega arith))

-- the clauses of a count, where it must not unroll
pub count-zero : (p : ℕ → Bool) → count_below p 0 ≡ 0
unfolding count_below
count-zero p = refl

pub count-suc : (p : ℕ → Bool) (n : ℕ) → count_below p (suc n) ≡ count_below p n + cond (p n) 1 0
unfolding count_below
count-suc p n = refl

-- where two tests exclude one another and join into a third, the counts add up
pub count_add : (p q r : ℕ → Bool) (n : ℕ) → ((k : ℕ) → k < n → cond (p k) 1 0 + cond (q k) 1 0 ≡ cond (r k) 1 0)
    → count_below p n + count_below q n ≡ count_below r n
unfolding count_below
count_add p q r zero h = refl
count_add p q r (suc n) h =
    omega (arith, count_add p q r n (λ k l. h k (omega arith)), h n (omega arith))

pub count_none : (p : ℕ → Bool) (n : ℕ) → ((k : ℕ) → k < n → p k ≡ false) → count_below p n ≡ 0
unfolding count_below
count_none p zero h = refl
count_none p (suc n) h =
    omega (arith, count_none p n (λ k l. h k (omega arith)), ap {B = ℕ} (λ b. cond b 1 0) (h n (omega arith)))

pub count-all : (p : ℕ → Bool) (n : ℕ) → ((k : ℕ) → k < n → p k ≡ true) → count_below p n ≡ n
unfolding count_below
count-all p zero h = refl
count-all p (suc n) h =
    omega (arith, count-all p n (λ k l. h k (omega arith)), ap {B = ℕ} (λ b. cond b 1 0) (h n (omega arith)))

-- a longer range adds nothing where no number beyond has p
pub count-longer : (p : ℕ → Bool) (n m : ℕ) → ((k : ℕ) → n ≤ k → p k ≡ false) → count_below p (m + n) ≡ count_below p n
unfolding count_below
count-longer p n zero h = ap (count_below p) (let e : 0 + n ≡ n = omega arith in e)
count-longer p n (suc m) h =
    let e : suc m + n ≡ suc (m + n) = omega arith in
    ap (count_below p) e ∙ (omega (arith, count-longer p n m h, ap {B = ℕ} (λ b. cond b 1 0) (h (m + n) (omega arith))))

-- those from n on, and those below n
pub count-tail : (p : ℕ → Bool) (n d : ℕ) → count_below (λ k. p k && leb n k) (d + n) + count_below p n ≡ count_below p (d + n)
unfolding count_below
count-tail p n zero =
    let e : 0 + n ≡ n = omega arith in
    let none : count_below (λ k. p k && leb n k) n ≡ 0 = count_none (λ k. p k && leb n k) n (λ k l. and_right (p k) (leb n k) (lt-leb n k l)) in
    ap (λ m. count_below (λ k. p k && leb n k) m + count_below p n) e ∙ omega (arith, none) ∙ sym (ap (count_below p) e)
count-tail p n (suc d) =
    let e : suc d + n ≡ suc (d + n) = omega arith in
    let last : (p (d + n) && leb n (d + n)) ≡ p (d + n) =
    ap (λ b. p (d + n) && b) (le-leb n (d + n) (omega arith)) ∙ and-true (p (d + n)) in
    ap (λ m. count_below (λ k. p k && leb n k) m + count_below p n) e
    ∙ omega (arith, count-tail p n d, ap {B = ℕ} (λ b. cond b 1 0) last) ∙ sym (ap (count_below p) e)

-- some number has p
pub count-find : (p : ℕ → Bool) (n : ℕ) → 0 < count_below p n → (k : ℕ) × (k < n) × (p k ≡ true)
unfolding count_below
count-find p zero h = absurd (omega arith)
count-find p (suc n) h =
    elim (cases_Bool (p n)) [
      | inl s ↦ (n, omega arith, s)
      | inr s ↦ (let r = count-find p n (omega (arith, h, ap {B = ℕ} (λ b. cond b 1 0) s)) in (r.0, omega (arith, r.1), r.2))
    ]

pub count-le : (p q : ℕ → Bool) (n : ℕ) → ((k : ℕ) → k < n → p k ≡ true → q k ≡ true) → count_below p n ≤ count_below q n
unfolding count_below
count-le p q zero h = omega arith
count-le p q (suc n) h =
    let below : count_below p n ≤ count_below q n = count-le p q n (λ k l. h k (omega arith)) in
    elim (cases_Bool (p n)) [
      | inl s ↦ omega (arith, below, ap {B = ℕ} (λ b. cond b 1 0) (h n (omega arith) s), ap {B = ℕ} (λ b. cond b 1 0) s)
      | inr s ↦ omega (arith, below, ap {B = ℕ} (λ b. cond b 1 0) s)
    ]

pub count_most : (p : ℕ → Bool) (n : ℕ) → count_below p n ≤ n
count_most p n =
    let all : count_below (λ _. true) n ≡ n = count-all (λ _. true) n (λ k l. refl) in
    omega (arith, count-le p (λ _. true) n (λ k l h. refl), all)

-- fewer numbers have p where every one of them has q and some number has q alone
pub count_less : (p q : ℕ → Bool) (n : ℕ) → ((k : ℕ) → k < n → p k ≡ true → q k ≡ true)
    → (j : ℕ) → j < n → p j ≡ false → q j ≡ true → count_below p n < count_below q n
unfolding count_below
count_less p q zero h j l a b = absurd (omega arith)
count_less p q (suc n) h j l a b =
    elim (cases_lt j n) [
      | inl s ↦ (let below : count_below p n < count_below q n = count_less p q n (λ k m. h k (omega arith)) j s a b in
          elim (cases_Bool (p n)) [
            | inl t ↦ omega (arith, below, ap {B = ℕ} (λ b. cond b 1 0) (h n (omega arith) t), ap {B = ℕ} (λ b. cond b 1 0) t)
            | inr t ↦ omega (arith, below, ap {B = ℕ} (λ b. cond b 1 0) t)
          ])
      | inr s ↦ (let e : n ≡ j = omega arith in
          omega (arith, count-le p q n (λ k m. h k (omega arith)), ap {B = ℕ} (λ b. cond b 1 0) (ap p e ∙ a), ap {B = ℕ} (λ b. cond b 1 0) (ap q e ∙ b)))
    ]

-- at most one number has p where any two that have it are the same
pub count-once : (p : ℕ → Bool) (n : ℕ)
    → ((i j : ℕ) → i < n → j < n → p i ≡ true → p j ≡ true → i ≡ j) → count_below p n ≤ 1
unfolding count_below
count-once p zero h = omega arith
count-once p (suc n) h =
    elim (cases_Bool (p n)) [
      | inl s ↦ (let none : count_below p n ≡ 0 = count_none p n (λ k l. elim (cases_Bool (p k)) [
        | inl t ↦ absurd (let e : k ≡ n = h k n (omega arith) (omega arith) t s in omega arith)
        | inr t ↦ t
      ]) in omega (arith, none, ap {B = ℕ} (λ b. cond b 1 0) s))
      | inr s ↦ omega (arith, count-once p n (λ i j a b. h i j (omega arith) (omega arith)), ap {B = ℕ} (λ b. cond b 1 0) s)
    ]

pub sum_same : (f g : ℕ → ℕ) (n : ℕ) → ((k : ℕ) → k < n → f k ≡ g k) → sum_below f n ≡ sum_below g n
unfolding sum_below
sum_same f g zero h = refl
sum_same f g (suc n) h = ap₂ ◌+◌ (sum_same f g n (λ k l. h k (omega arith))) (h n (omega arith))

pub sum_ones : (f : ℕ → ℕ) (n : ℕ) → ((k : ℕ) → k < n → f k ≡ 1) → sum_below f n ≡ n
unfolding sum_below
sum_ones f zero h = refl
sum_ones f (suc n) h = omega (arith, sum_ones f n (λ k l. h k (omega arith)), h n (omega arith))

pub sum-small : (f : ℕ → ℕ) (n : ℕ) → ((k : ℕ) → k < n → f k ≤ 1) → sum_below f n ≤ n
unfolding sum_below
sum-small f zero h = omega arith
sum-small f (suc n) h = omega (arith, sum-small f n (λ k l. h k (omega arith)), h n (omega arith))

-- n summands of at most 1 that add up to n are all 1
pub sum-full : (f : ℕ → ℕ) (n : ℕ) → ((k : ℕ) → k < n → f k ≤ 1) → sum_below f n ≡ n → (k : ℕ) → k < n → f k ≡ 1
unfolding sum_below
sum-full f zero h e k l = absurd (omega arith)
sum-full f (suc n) h e k l =
    let small : sum_below f n ≤ n = sum-small f n (λ j m. h j (omega arith)) in
    let last : f n ≤ 1 = h n (omega arith) in
    elim (cases_lt k n) [
      | inl s ↦ sum-full f n (λ j m. h j (omega arith)) (omega (arith, e, small, last)) k s
      | inr s ↦ (let k-is : k ≡ n = omega arith in ap f k-is ∙ omega (arith, e, small, last))
    ]

pub sum-count : (p : ℕ → Bool) (n : ℕ) → sum_below (λ k. cond (p k) 1 0) n ≡ count_below p n
unfolding sum_below count_below
sum-count p zero = refl
sum-count p (suc n) = ap (λ a. a + cond (p n) 1 0) (sum-count p n)

-- counting by value: those with f below m, as a sum over the values
pub count-values : (q : ℕ → Bool) (f : ℕ → ℕ) (n m : ℕ)
    → count_below (λ i. q i && ltb (f i) m) n ≡ sum_below (λ j. count_below (λ i. q i && eqb (f i) j) n) m
unfolding sum_below
count-values q f n zero = count_none (λ i. q i && ltb (f i) 0) n (λ k l. grind (arith, nat_tests))
count-values q f n (suc m) =
    sym (count_add (λ i. q i && ltb (f i) m) (λ i. q i && eqb (f i) m) (λ i. q i && ltb (f i) (suc m)) n (λ k l. grind (arith, nat_tests)))
    ∙ ap (λ a. a + count_below (λ i. q i && eqb (f i) m) n) (count-values q f n m)

-- the numbers below n that have q, m of them, go one to one into the numbers below m: so each of those is met once
module _ (q : ℕ → Bool) (f : ℕ → ℕ) (n m : ℕ) (all : count_below q n ≡ m)
    (inside : (i : ℕ) → i < n → q i ≡ true → f i < m)
    (apart : (i j : ℕ) → i < n → j < n → q i ≡ true → q j ≡ true → f i ≡ f j → i ≡ j) where
  pub met-once : (r : ℕ) → r < m → count_below (λ i. q i && eqb (f i) r) n ≡ 1
  met-once =
      sum-full (λ r. count_below (λ i. q i && eqb (f i) r) n) m
      (λ r l. count-once (λ i. q i && eqb (f i) r) n (λ i j a b s t.
      let si = and_parts (q i) (eqb (f i) r) s in
      let sj = and_parts (q j) (eqb (f j) r) t in
      apart i j a b si.0 sj.0 (eqb-true (f i) r si.1 ∙ sym (eqb-true (f j) r sj.1))))
      (sym (count-values q f n m)
      ∙ count_same (λ i. q i && ltb (f i) m) q n (λ i l. elim (cases_Bool (q i)) [
        | inl s ↦ ap₂ ◌&&◌ s (lt-ltb (f i) m (inside i l s)) ∙ sym s
        | inr s ↦ ap (λ b. b && ltb (f i) m) s ∙ sym s
      ])
      ∙ all)

  -- so exactly r of them have a value below r
  pub met-below : (r : ℕ) → r ≤ m → count_below (λ i. q i && ltb (f i) r) n ≡ r
  met-below r l =
      count-values q f n r
      ∙ sum_ones (λ j. count_below (λ i. q i && eqb (f i) j) n) r (λ j s. met-once j (omega arith))

-- a map of the numbers below n into themselves that keeps them apart
module _ (f : ℕ → ℕ) (n : ℕ) (inside : (i : ℕ) → i < n → f i < n)
    (apart : (i j : ℕ) → i < n → j < n → f i ≡ f j → i ≡ j) where
  -- the pigeonhole lemma: each is met exactly once
  pub pigeonhole : (r : ℕ) → r < n → count_below (λ i. eqb (f i) r) n ≡ 1
  pigeonhole =
      met-once (λ i. true) f n n (count-all (λ i. true) n (λ k l. refl)) (λ i l s. inside i l) (λ i j a b s t. apart i j a b)

  pub onto : (r : ℕ) → r < n → (i : ℕ) × (i < n) × (f i ≡ r)
  onto r l =
      let found = count-find (λ i. eqb (f i) r) n (omega (arith, pigeonhole r l)) in
      (found.0, found.1, eqb-true (f found.0) r found.2)

  -- and counts do not change along it
  pub count-along : (p : ℕ → Bool) → count_below (λ i. p (f i)) n ≡ count_below p n
  count-along p =
      count_same (λ i. p (f i)) (λ i. p (f i) && ltb (f i) n) n
      (λ i l. sym (ap (λ b. p (f i) && b) (lt-ltb (f i) n (inside i l)) ∙ and-true (p (f i))))
      ∙ count-values (λ i. p (f i)) f n n
      ∙ sum_same (λ j. count_below (λ i. p (f i) && eqb (f i) j) n) (λ j. cond (p j) 1 0) n
      (λ j l. elim (cases_Bool (p j)) [
        | inl s ↦ count_same (λ i. p (f i) && eqb (f i) j) (λ i. eqb (f i) j) n
            (λ i k. elim (cases_Bool (eqb (f i) j)) [
              | inl t ↦ ap₂ ◌&&◌ (ap p (eqb-true (f i) j t) ∙ s) t ∙ sym t
              | inr t ↦ ap (λ b. p (f i) && b) t ∙ and-false (p (f i)) ∙ sym t
            ])
            ∙ pigeonhole j l ∙ sym (ap {B = ℕ} (λ b. cond b 1 0) s)
        | inr s ↦ count_none (λ i. p (f i) && eqb (f i) j) n
            (λ i k. elim (cases_Bool (eqb (f i) j)) [
              | inl t ↦ ap₂ ◌&&◌ (ap p (eqb-true (f i) j t) ∙ s) t
              | inr t ↦ ap (λ b. p (f i) && b) t ∙ and-false (p (f i))
            ])
            ∙ sym (ap {B = ℕ} (λ b. cond b 1 0) s)
      ])
      ∙ sum-count p n
