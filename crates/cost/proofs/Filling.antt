-- A loop that writes a block into a list, one value a turn. Assumes nothing.
use Rattle.std.proofs.Common.{◌≡◌, ℕ, suc, ◌+◌, ◌^◌, ◌<◌, ◌≤◌, ◌≢◌, ◌-◌, List, ◌++◌, length, get_or, drop, set, replicate, ℤ, pos, nat_abs, sym, refl, ap, ◌∙◌, subst, ap₂, ⊎_elim, arith, pow_mono, pow_pos, get_or-set_other, get_or-set_same}
use Rattle.std.proofs.lemmas.Bool.{cases_eq, cases_lt}
use Rattle.std.proofs.lemmas.List.{get_or_past, get_or_append_left, get_or-append_right, get_or-drop}
use Rattle.cost.proofs.Silent.{zeros}
use Rattle.cost.specs.Levels.{Filled, KeptAround, level, paired}

pub filled_none : (m : ℕ) (block : ℕ → ℤ) (xs : List ℤ) → Filled m 0 block xs xs
filled_none m block xs = record { filled = λ k lt. absurd (omega arith); below = λ j lt. refl; above = λ j le. refl }

pub filled_more : (m k p : ℕ) (block : ℕ → ℤ) (before after : List ℤ) (v : ℤ) → p ≡ m + k → p < length after → v ≡ block k →
    Filled m k block before after → Filled m (k + 1) block before (set after p v)
filled_more m k p block before after v place lt e part =
    record {
      filled = λ j below.
          ⊎_elim
          (λ same.
          let here : m + j ≡ p = omega arith in
          ap (λ i. get_or (set after p v) i (pos 0)) here ∙ get_or-set_same after p v (pos 0) lt ∙ e ∙ ap block (sym same))
          (λ other. beside (m + j) (omega arith) ∙ part.filled j (omega arith))
          (cases_eq j k);
      below = λ j lt. beside j (omega arith) ∙ part.below j lt;
      above = λ j le. beside j (omega arith) ∙ part.above j (omega arith);
    }
  where
    beside : (j : ℕ) → j ≢ p → get_or (set after p v) j (pos 0) ≡ get_or after j (pos 0)
    beside j other = get_or-set_other after p j v (pos 0) other

-- only the values that are written count
pub filled-same : (m n : ℕ) (a b : ℕ → ℤ) (before after : List ℤ) → ((k : ℕ) → k < n → a k ≡ b k) →
    Filled m n a before after → Filled m n b before after
filled-same m n a b before after same made =
    record { filled = λ k lt. made.filled k lt ∙ same k lt; below = made.below; above = made.above }

-- a list written over the front of zeros is the list with zeros after it
pub written-zeros : (xs ys : List ℤ) (n : ℕ) → ys ≡ xs →
    (j : ℕ) → get_or (ys ++ drop (length xs) (replicate n (pos 0))) j (pos 0) ≡ get_or xs j (pos 0)
written-zeros xs ys n e j =
    ap (λ (zs : List ℤ). get_or (zs ++ rest) j (pos 0)) e
    ∙ ⊎_elim
    (λ lt. get_or_append_left xs rest (pos 0) j lt)
    (λ le.
    get_or-append_right xs rest (length xs) j (pos 0) refl le
    ∙ get_or-drop (length xs) (replicate n (pos 0)) (j - length xs) (pos 0)
    ∙ zeros n (length xs + (j - length xs))
    ∙ sym (get_or_past xs j (pos 0) le))
    (cases_lt j (length xs))
  where
    rest : List ℤ
    rest = drop (length xs) (replicate n (pos 0))

-- while level m is being filled, the level above stays
above-stays : (m k : ℕ) (block : ℕ → ℤ) (before after : List ℤ) → k ≤ 2 ^ m → Filled (2 ^ m) k block before after →
    (j : ℕ) → level after (suc m) j ≡ level before (suc m) j
above-stays m k block before after le part j = part.above (2 ^ suc m + j) (omega arith)

-- and stays small
pub above-small : (m k b : ℕ) (block : ℕ → ℤ) (before after : List ℤ) → k ≤ 2 ^ m → Filled (2 ^ m) k block before after →
    ((j : ℕ) → j < 2 ^ suc m → nat_abs (level before (suc m) j) ≤ b) →
    (j : ℕ) → j < 2 ^ suc m → nat_abs (level after (suc m) j) ≤ b
above-small m k b block before after le part small j lt =
    subst (λ v. nat_abs v ≤ b) (sym (above-stays m k block before after le part j)) (small j lt)

-- one more place of level m
pub filled-turn : (m k p : ℕ) (rule : ℕ → ℤ → ℤ → ℤ) (before after : List ℤ) (a b v : ℤ) → k ≤ 2 ^ m → p ≡ 2 ^ m + k →
    p < length after → a ≡ level after (suc m) k → b ≡ level after (suc m) (2 ^ m + k) → v ≡ rule k a b →
    Filled (2 ^ m) k (paired m rule before) before after → Filled (2 ^ m) (k + 1) (paired m rule before) before (set after p v)
filled-turn m k p rule before after a b v le place lt low high e part =
    let stays = above-stays m k (paired m rule before) before after le part in
    filled_more (2 ^ m) k p (paired m rule before) before after v place lt
    (e ∙ ap₂ (rule k) (low ∙ stays k) (high ∙ stays (2 ^ m + k))) part

-- around the levels nothing changes: by nothing, by two changes, and by filling a level
pub kept : {n : ℕ} {xs : List ℤ} → KeptAround n xs xs
kept = record { first = refl; rest = λ j le. refl }

pub kept-on : {n : ℕ} {xs ys zs : List ℤ} → KeptAround n xs ys → KeptAround n ys zs → KeptAround n xs zs
kept-on one two = record { first = two.first ∙ one.first; rest = λ j le. two.rest j le ∙ one.rest j le }

pub kept-filled : (m n : ℕ) (block : ℕ → ℤ) (xs ys : List ℤ) → m ≤ n → Filled (2 ^ m) (2 ^ m) block xs ys → KeptAround n xs ys
kept-filled m n block xs ys le made =
    let wide : 2 ^ m ≤ 2 ^ n = pow_mono le in
    record { first = made.below 0 (pow_pos m); rest = λ j far. made.above j (omega arith) }
