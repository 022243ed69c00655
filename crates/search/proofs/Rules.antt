-- The store of the rules is a store. Assumes nothing.
use Rattle.std.proofs.Common.{◌≡◌, ℕ, suc, ◌+◌, ◌≤◌, Bool, true, false, cond, ltb, leb, ◌⊎◌, List, [], ◌∷◌, length, Some, None, Option, sym, refl, ap, subst, inl, inr, arith}
use Rattle.std.proofs.lemmas.Bool.{le-leb, ltb-false}
use Rattle.std.proofs.lemmas.Bool.Decides.{nat_tests}
use Rattle.search.specs.Lists.{count, Among}
use Rattle.search.specs.Stores.{Candidate, before, lesser, Contents, inserted, all_but_last, last_metric, keeping_all, shedding_last, put_into, behind_first, ruled, Reaches, InOrder, Keeps, StoreLaws, CapacityLaws}
use Rattle.search.proofs.Lists.{count-among, each_at, each_from}

before-metric : (a b : Candidate) → before a b ≡ true → a.metric ≤ b.metric
before-metric a b e = grind (arith, nat_tests)

not-before-metric : (a b : Candidate) → before a b ≡ false → b.metric ≤ a.metric
not-before-metric a b e = grind (arith, nat_tests)

count-inserted : (p : Candidate → Bool) (xs : List Candidate) (c : Candidate) → count p (inserted xs c) ≡ cond (p c) 1 0 + count p xs
count-inserted p [] c = refl
count-inserted p (x ∷ xs) c = let h = count-inserted p xs c in go (before x c) h
  where
    go : (t : Bool) → count p (inserted xs c) ≡ cond (p c) 1 0 + count p xs → count p (cond t (x ∷ inserted xs c) (c ∷ x ∷ xs)) ≡ cond (p c) 1 0 + (cond (p x) 1 0 + count p xs)
    go true h = omega arith
    go false h = refl

among-inserted : (d : Candidate) (xs : List Candidate) (c : Candidate) → Among d (c ∷ xs) → Among d (inserted xs c)
among-inserted d [] c m = m
among-inserted d (x ∷ xs) c m = go (before x c) m (among-inserted d xs c)
  where
    go : (t : Bool) → Among d (c ∷ x ∷ xs) → (Among d (c ∷ xs) → Among d (inserted xs c)) → Among d (cond t (x ∷ inserted xs c) (c ∷ x ∷ xs))
    go true (inl e) ih = inr (ih (inl e))
    go true (inr (inl e)) ih = inl e
    go true (inr (inr m)) ih = inr (ih (inr m))
    go false m ih = m

inserted-among : (d : Candidate) (xs : List Candidate) (c : Candidate) → Among d (inserted xs c) → Among d (c ∷ xs)
inserted-among d [] c m = m
inserted-among d (x ∷ xs) c m = go (before x c) m (inserted-among d xs c)
  where
    go : (t : Bool) → Among d (cond t (x ∷ inserted xs c) (c ∷ x ∷ xs)) → (Among d (inserted xs c) → Among d (c ∷ xs)) → Among d (c ∷ x ∷ xs)
    go true (inl e) ih = inr (inl e)
    go true (inr m) ih = elim (ih m) [ inl e ↦ inl e | inr m' ↦ inr (inr m') ]
    go false m ih = m

inserted-in-order : (xs : List Candidate) (c : Candidate) → InOrder xs → InOrder (inserted xs c)
inserted-in-order [] c o = (tt, tt)
inserted-in-order (x ∷ xs) c o = go (before x c) refl (inserted-in-order xs c o.1)
  where
    Above : Candidate → Candidate → Type 0
    Above a d = a.metric ≤ d.metric

    go : (t : Bool) → before x c ≡ t → InOrder (inserted xs c) → InOrder (cond t (x ∷ inserted xs c) (c ∷ x ∷ xs))
    go true e ih = (each_from (Above x) (inserted xs c) (λ d m. elim (inserted-among d xs c m) [ inl q ↦ subst (Above x) (sym q) (before-metric x c e) | inr n ↦ each_at (Above x) xs o.0 d n ]), ih)
    go false e ih = let h = not-before-metric x c e in ((h, each_from (Above c) xs (λ d m. let k = each_at (Above x) xs o.0 d m in omega arith)), o)

count-all_but_last : (p : Candidate → Bool) (xs : List Candidate) → count p (all_but_last xs) ≤ count p xs
count-all_but_last p [] = omega arith
count-all_but_last p (x ∷ []) = omega arith
count-all_but_last p (x ∷ (y ∷ ys)) = let h = count-all_but_last p (y ∷ ys) in omega arith

among-all_but_last : (d : Candidate) (xs : List Candidate) → Among d (all_but_last xs) → Among d xs
among-all_but_last d [] m = m
among-all_but_last d (x ∷ []) m = absurd m
among-all_but_last d (x ∷ (y ∷ ys)) (inl e) = inl e
among-all_but_last d (x ∷ (y ∷ ys)) (inr m) = inr (among-all_but_last d (y ∷ ys) m)

last-lost : (d : Candidate) (xs : List Candidate) → Among d xs → Among d (all_but_last xs) ⊎ Reaches d.metric (last_metric xs)
last-lost d [] m = absurd m
last-lost d (x ∷ []) (inl e) = inr (let h : d.metric ≡ x.metric = ap (λ (c : Candidate). c.metric) e in omega arith)
last-lost d (x ∷ []) (inr m) = absurd m
last-lost d (x ∷ (y ∷ ys)) (inl e) = inl (inl e)
last-lost d (x ∷ (y ∷ ys)) (inr m) = elim (last-lost d (y ∷ ys) m) [ inl n ↦ inl (inr n) | inr r ↦ inr r ]

all_but_last-in-order : (xs : List Candidate) → InOrder xs → InOrder (all_but_last xs)
all_but_last-in-order [] o = tt
all_but_last-in-order (x ∷ []) o = tt
all_but_last-in-order (x ∷ (y ∷ ys)) o = (each_from (λ d. x.metric ≤ d.metric) (all_but_last (y ∷ ys)) (λ d m. each_at (λ d. x.metric ≤ d.metric) (y ∷ ys) o.0 d (among-all_but_last d (y ∷ ys) m)), all_but_last-in-order (y ∷ ys) o.1)

pub lesser-left : (n : ℕ) (a b : Option ℕ) → Reaches n a → Reaches n (lesser a b)
lesser-left n None b h = absurd h
lesser-left n (Some x) None h = h
lesser-left n (Some x) (Some y) h = omega arith

pub lesser-right : (n : ℕ) (a b : Option ℕ) → Reaches n b → Reaches n (lesser a b)
lesser-right n None b h = h
lesser-right n (Some x) None h = absurd h
lesser-right n (Some x) (Some y) h = omega arith

-- the contents after a put, by whether there is room
abbrev chosen : Contents → Candidate → Bool → Contents
chosen s c room = cond room (keeping_all s c) (shedding_last s c)

put_into-keeps : (s : Contents) (c : Candidate) → Keeps (c ∷ s.kept) s.floor (put_into s c).kept (put_into s c).floor
put_into-keeps s c = go (ltb (length s.kept) s.capacity)
  where
    all : List Candidate
    all = inserted s.kept c

    go : (t : Bool) → Keeps (c ∷ s.kept) s.floor (chosen s c t).kept (chosen s c t).floor
    go true = record {
      only = λ p. let h = count-inserted p s.kept c in omega arith;
      lost = λ d m. inl (among-inserted d s.kept c m);
      falls = λ n h. h;
    }
    go false = record {
      only = λ p. let h = count-inserted p s.kept c in let k = count-all_but_last p all in omega arith;
      lost = λ d m. elim (last-lost d all (among-inserted d s.kept c m)) [ inl n ↦ inl n | inr r ↦ inr (lesser-right d.metric s.floor (last_metric all) r) ];
      falls = λ n h. lesser-left n s.floor (last_metric all) h;
    }

put_into-in-order : (s : Contents) (c : Candidate) → InOrder s.kept → InOrder (put_into s c).kept
put_into-in-order s c o = go (ltb (length s.kept) s.capacity)
  where
    go : (t : Bool) → InOrder (chosen s c t).kept
    go true = inserted-in-order s.kept c o
    go false = all_but_last-in-order (inserted s.kept c) (inserted-in-order s.kept c o)

behind_first-in-order : (xs : List Candidate) → InOrder xs → InOrder (behind_first xs)
behind_first-in-order [] o = tt
behind_first-in-order (x ∷ xs) o = o.1

length_inserted : (xs : List Candidate) (c : Candidate) → length (inserted xs c) ≡ suc (length xs)
length_inserted [] c = refl
length_inserted (x ∷ xs) c = go (before x c) (length_inserted xs c)
  where
    go : (t : Bool) → length (inserted xs c) ≡ suc (length xs) → length (cond t (x ∷ inserted xs c) (c ∷ x ∷ xs)) ≡ suc (suc (length xs))
    go true h = ap suc h
    go false h = refl

-- the cheapest of two or more stands first, and is not the last
cheapest-first : (x : Candidate) (xs : List Candidate) → InOrder xs → 2 ≤ length xs → Among x xs → count (λ y. leb y.metric x.metric) xs ≡ 1 → Among x (all_but_last xs)
cheapest-first x [] o l m one = absurd m
cheapest-first x (a ∷ []) o l m one = absurd (omega arith)
cheapest-first x (a ∷ (b ∷ ys)) o l (inl e) one = inl e
cheapest-first x (a ∷ (b ∷ ys)) o l (inr m) one =
    let first : leb a.metric x.metric ≡ true = le-leb a.metric x.metric (each_at (λ d. a.metric ≤ d.metric) (b ∷ ys) o.0 x m) in
    let more = count-among (λ y. leb y.metric x.metric) x (b ∷ ys) m (le-leb x.metric x.metric (omega arith)) in
    let two : cond true 1 0 + count (λ y. leb y.metric x.metric) (b ∷ ys) ≡ 1 = subst (λ t. cond t 1 0 + count (λ y. leb y.metric x.metric) (b ∷ ys) ≡ 1) first one in
    absurd (omega arith)

put_into-capacity : (s : Contents) (c : Candidate) → (put_into s c).capacity ≡ s.capacity
put_into-capacity s c = go (ltb (length s.kept) s.capacity)
  where
    go : (t : Bool) → (chosen s c t).capacity ≡ s.capacity
    go true = refl
    go false = refl

put_into-cheapest : (s : Contents) (c x : Candidate) → 2 ≤ s.capacity → InOrder s.kept → Among x (c ∷ s.kept) → count (λ y. leb y.metric x.metric) (c ∷ s.kept) ≡ 1 → Among x (put_into s c).kept
put_into-cheapest s c x room o m one = go (ltb (length s.kept) s.capacity) refl
  where
    stands : Among x (inserted s.kept c)
    stands = among-inserted x s.kept c m

    go : (t : Bool) → ltb (length s.kept) s.capacity ≡ t → Among x (chosen s c t).kept
    go true e = stands
    go false e =
        let full = ltb-false (length s.kept) s.capacity e in
        let long = length_inserted s.kept c in
        let same = count-inserted (λ y. leb y.metric x.metric) s.kept c in
        cheapest-first x (inserted s.kept c) (inserted-in-order s.kept c o) (omega arith) stands (omega arith)

pub rules-keep-capacity : CapacityLaws ruled
rules-keep-capacity = record { emptied = λ s n. refl; put = put_into-capacity; taken = λ s. refl; cheapest = put_into-cheapest }

pub rules-make-a-store : StoreLaws ruled
rules-make-a-store = record {
  empty = λ s n. (refl, refl);
  puts = put_into-keeps;
  takes = λ s. record { only = λ p. omega arith; lost = λ c m. inl m; falls = λ n h. h };
  put-in-order = put_into-in-order;
  taken-in-order = λ s o. behind_first-in-order s.kept o;
}
