-- No two kept candidates share a row, also after a put of one whose row is free. Assumes nothing.
use Rattle.std.proofs.Common.{◌≡◌, ℕ, zero, suc, true, false, cond, eqb, List, [], ◌∷◌, take, sym, refl, subst}
use Rattle.std.proofs.lemmas.Bool.{or_parts, or_from, ne_eqb, eqb-false}
use Rattle.store.specs.declared.candidate.Candidate.{Candidate}
use Rattle.store.specs.Meaning as store
use Rattle.store.specs.Order.{before}
use Rattle.store.specs.Ordered.{inserted}
use Rattle.decoder.specs.States.{RowsApart}

other : (a b : ℕ) → eqb a b ≡ false → eqb b a ≡ false
other a b e = ne_eqb b a (λ h. eqb-false a b e (sym h))

not-held-inserted : (r : ℕ) (xs : List Candidate) (c : Candidate) → eqb c.row r ≡ false → store.holds_row r xs ≡ false → store.holds_row r (inserted before xs c) ≡ false
unfolding store.holds_row inserted
not-held-inserted r [] c e h = or_from _ _ e refl
not-held-inserted r (x ∷ xs) c e h =
    let (here, later) = or_parts (eqb x.row r) (store.holds_row r xs) h in
    elim (before x c) as (λ b. store.holds_row r (cond b (x ∷ inserted before xs c) (c ∷ x ∷ xs)) ≡ false)
    [ true ↦ or_from _ _ here (not-held-inserted r xs c e later) | false ↦ or_from _ _ e h ]

apart-inserted : (xs : List Candidate) (c : Candidate) → RowsApart xs → store.holds_row c.row xs ≡ false → RowsApart (inserted before xs c)
unfolding store.holds_row inserted
apart-inserted [] c apart h = (refl, tt)
apart-inserted (x ∷ xs) c apart h =
    let (here, later) = or_parts (eqb x.row c.row) (store.holds_row c.row xs) h in
    elim (before x c) as (λ b. RowsApart (cond b (x ∷ inserted before xs c) (c ∷ x ∷ xs)))
    [ true ↦ (not-held-inserted x.row xs c (other x.row c.row here) apart.0, apart-inserted xs c apart.1 later) | false ↦ (h, apart) ]

not-held-take : (r n : ℕ) (xs : List Candidate) → store.holds_row r xs ≡ false → store.holds_row r (take n xs) ≡ false
unfolding store.holds_row
not-held-take r zero xs h = refl
not-held-take r (suc n) [] h = refl
not-held-take r (suc n) (x ∷ xs) h =
    let (here, later) = or_parts (eqb x.row r) (store.holds_row r xs) h in or_from _ _ here (not-held-take r n xs later)

apart-take : (n : ℕ) (xs : List Candidate) → RowsApart xs → RowsApart (take n xs)
apart-take zero xs h = tt
apart-take (suc n) [] h = tt
apart-take (suc n) (x ∷ xs) h = (not-held-take x.row n xs h.0, apart-take n xs h.1)

pub apart-put : (n : ℕ) (xs ys : List Candidate) (c : Candidate) → RowsApart xs → store.holds_row c.row xs ≡ false → ys ≡ (store.puts before n xs c).stays → RowsApart ys
apart-put n xs ys c apart free e = subst RowsApart (sym e) (apart-take n (inserted before xs c) (apart-inserted xs c apart free))

pub apart-taken : (xs ys : List Candidate) → RowsApart xs → ys ≡ (store.takes xs).stays → RowsApart ys
apart-taken [] ys apart e = subst RowsApart (sym e) tt
apart-taken (x ∷ xs) ys apart e = subst RowsApart (sym e) apart.1

pub apart_none : (xs : List Candidate) → xs ≡ [] → RowsApart xs × (store.holds_row 0 xs ≡ false)
unfolding store.holds_row
apart_none xs e = subst (λ ys. RowsApart ys × (store.holds_row 0 ys ≡ false)) (sym e) (tt, refl)
