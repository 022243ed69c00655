-- More rows than candidates: one is free. Assumes nothing.
use Rattle.std.proofs.Common.{◌≡◌, ℕ, zero, suc, ◌+◌, ◌<◌, ◌≤◌, Bool, true, false, cond, ◌||◌, eqb, ◌⊎◌, List, [], ◌∷◌, length, refl, inl, inr, arith}
use Rattle.std.proofs.lemmas.Bool.{eqb-true}
use Rattle.base.specs.Counts.{count_below}
use Rattle.base.proofs.Counts.{count-all, count_none}
use Rattle.store.specs.declared.candidate.Candidate.{Candidate}
use Rattle.store.specs.Meaning.{holds_row}

-- no number is met twice
one-met : (a n : ℕ) → (count_below (λ r. eqb a r) n ≡ 0) ⊎ ((count_below (λ r. eqb a r) n ≡ 1) × (a < n))
unfolding count_below
one-met a zero = inl refl
one-met a (suc n) = go (one-met a n) (eqb a n) refl
  where
    go : (count_below (λ r. eqb a r) n ≡ 0) ⊎ ((count_below (λ r. eqb a r) n ≡ 1) × (a < n)) → (t : Bool) → eqb a n ≡ t → (count_below (λ r. eqb a r) n + cond t 1 0 ≡ 0) ⊎ ((count_below (λ r. eqb a r) n + cond t 1 0 ≡ 1) × (a < suc n))
    go (inl z) true e = let h = eqb-true a n e in inr (omega arith, omega arith)
    go (inl z) false e = inl (omega arith)
    go (inr (o, l)) true e = let h = eqb-true a n e in absurd (omega arith)
    go (inr (o, l)) false e = inr (omega arith, omega arith)

at_most_one : (a n : ℕ) → count_below (λ r. eqb a r) n ≤ 1
at_most_one a n = go (one-met a n)
  where
    go : (count_below (λ r. eqb a r) n ≡ 0) ⊎ ((count_below (λ r. eqb a r) n ≡ 1) × (a < n)) → count_below (λ r. eqb a r) n ≤ 1
    go (inl z) = omega arith
    go (inr (o, l)) = omega arith

count-either : (p q : ℕ → Bool) (n : ℕ) → count_below (λ r. p r || q r) n ≤ count_below p n + count_below q n
unfolding count_below
count-either p q zero = omega arith
count-either p q (suc n) = go (p n) (q n) (count-either p q n)
  where
    go : (s t : Bool) → count_below (λ r. p r || q r) n ≤ count_below p n + count_below q n → count_below (λ r. p r || q r) n + cond (s || t) 1 0 ≤ (count_below p n + cond s 1 0) + (count_below q n + cond t 1 0)
    go true true h = omega arith
    go true false h = omega arith
    go false true h = omega arith
    go false false h = omega arith

pub rows-held : (xs : List Candidate) (n : ℕ) → count_below (λ r. holds_row r xs) n ≤ length xs
unfolding holds_row
rows-held [] n = let h = count_none (λ r. false) n (λ k l. refl) in omega arith
rows-held (c ∷ cs) n =
    let a = count-either (λ r. eqb c.row r) (λ r. holds_row r cs) n in
    let b = at_most_one c.row n in
    let d = rows-held cs n in
    omega arith

-- fewer candidates than rows cannot hold them all
pub not-all-held : (xs : List Candidate) (n : ℕ) → length xs < n → ((r : ℕ) → r < n → holds_row r xs ≡ true) → ⊥
not-all-held xs n few all =
    let h = rows-held xs n in
    let k = count-all (λ r. holds_row r xs) n all in
    omega arith
