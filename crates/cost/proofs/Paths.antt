-- Rows of bits as paths: a row read, a row with one bit set, a child's row. Assumes nothing.
use Rattle.std.proofs.Common.{◌≡◌, ℕ, zero, suc, ◌<◌, ◌≤◌, Bool, false, cond, eqb, ltb, ◌≢◌, List, map, length, get_or, set, replicate, sym, refl, ap, ◌∙◌, ⊎_elim, length-set, get_or-set_other, get_or-set_same, arith}
use mathlib.Core.Path.{fun_ext}
use Rattle.std.proofs.lemmas.List.{get_or-map, get_or_past, map-set, set-set}
use Rattle.std.proofs.lemmas.Bool.{and_from, and_left, and_right, cases_eq, cases_lt, cond_both, cond-true, cond-false, eq-eqb, le-ltb, lt-ltb, ne_eqb}
use Rattle.bits.specs.Row.{row_bit, set_bit}
use Rattle.bits.specs.declared.row.Row.{Row}
use Rattle.cost.specs.Rows.{path_in, with_path}

pub path-read : (xs : List Row) (row : ℕ) (r : Row) → row < 129 → row < length xs → row_bit (get_or xs row r) ≡ path_in xs row
unfolding path_in
path-read xs row r lt inside =
    sym (cond-true _ _ _ (lt-ltb row 129 lt) ∙ get_or-map row_bit xs row r (λ _. false) inside)

path-past : (xs : List Row) (row : ℕ) (r : Row) → 129 ≤ row → ((k : ℕ) → row_bit r k ≡ false) → row_bit r ≡ path_in xs row
unfolding path_in
path-past xs row r le none = fun_ext none ∙ sym (cond-false _ _ _ (le-ltb row 129 le))

-- what is read of 129 rows, with no bit set beyond them
pub path-or : (xs : List Row) (row : ℕ) (r : Row) → length xs ≡ 129 → ((k : ℕ) → row_bit r k ≡ false) → row_bit (get_or xs row r) ≡ path_in xs row
path-or xs row r whole none =
    ⊎_elim
    (λ lt. path-read xs row r lt (omega arith))
    (λ le. ap row_bit (get_or_past xs row r (omega arith)) ∙ path-past xs row r le none)
    (cases_lt row 129)

path-beside : (xs : List Row) (row i : ℕ) (r : Row) → i ≢ row → path_in (set xs row r) i ≡ path_in xs i
unfolding path_in
path-beside xs row i r other =
    ap (λ u. cond (ltb i 129) u (λ _. false))
    (ap (λ l. get_or l i (λ _. false)) (map-set row_bit xs row r) ∙ get_or-set_other (map row_bit xs) row i (row_bit r) (λ _. false) other)

pub path-put : (xs : List Row) (row : ℕ) (new : Row) (u : ℕ → Bool) → row < 129 → row < length xs → row_bit new ≡ u →
    path_in (set xs row new) ≡ with_path (path_in xs) row u
path-put xs row new u lt inside e = fun_ext (λ i. ⊎_elim (at i) (beside i) (cases_eq i row))
  where
    Goal : ℕ → Type 0
    Goal i = path_in (set xs row new) i ≡ with_path (path_in xs) row u i

    at : (i : ℕ) → i ≡ row → Goal i
    at i same =
        ap (path_in (set xs row new)) same
        ∙ sym (path-read (set xs row new) row new lt (simp length-set inside))
        ∙ ap row_bit (get_or-set_same xs row new new inside)
        ∙ e
        ∙ sym (cond-true _ _ _ (and_from (eqb i row) (ltb row 129) (eq-eqb i row same) (lt-ltb row 129 lt)))

    beside : (i : ℕ) → i ≢ row → Goal i
    beside i other =
        path-beside xs row i new other ∙ sym (cond-false _ _ _ (and_left (eqb i row) (ltb row 129) (ne_eqb i row other)))

pub path-kept : (xs : List Row) (row : ℕ) (u : ℕ → Bool) → 129 ≤ row → path_in xs ≡ with_path (path_in xs) row u
path-kept xs row u le =
    fun_ext (λ i. sym (cond-false _ _ _ (and_right (eqb i row) (ltb row 129) (le-ltb row 129 le))))

pub path-set : (xs : List Row) (row k : ℕ) (v : Bool) (old new : Row) → row < 129 → row < length xs →
    ((j : ℕ) → row_bit new j ≡ set_bit (row_bit (get_or xs row old)) k v j) →
    path_in (set xs row new) ≡ with_path (path_in xs) row (set_bit (path_in xs row) k v)
path-set xs row k v old new lt inside written =
    path-put xs row new _ lt inside (fun_ext written ∙ ap (λ u. set_bit u k v) (path-read xs row old lt inside))

-- a row copied first, and then written
pub path-branch : (xs : List Row) (row k : ℕ) (v : Bool) (u : ℕ → Bool) (copy old new : Row) → row < 129 → row < length xs →
    row_bit copy ≡ u → ((j : ℕ) → row_bit new j ≡ set_bit (row_bit (get_or (set xs row copy) row old)) k v j) →
    path_in (set (set xs row copy) row new) ≡ with_path (path_in xs) row (set_bit u k v)
path-branch xs row k v u copy old new lt inside same written =
    ap path_in (set-set xs row copy new)
    ∙ path-put xs row new (set_bit u k v) lt inside
    (fun_ext written ∙ ap (λ r. set_bit (row_bit r) k v) (get_or-set_same xs row copy old inside) ∙ ap (λ w. set_bit w k v) same)

false-rows : (n : ℕ) (r : Row) → ((k : ℕ) → row_bit r k ≡ false) → (row k : ℕ) →
    get_or (map row_bit (replicate n r)) row (λ _. false) k ≡ false
false-rows zero r none row k = refl
false-rows (suc n) r none zero k = none k
false-rows (suc n) r none (suc row) k = false-rows n r none row k

pub path-zero : (n : ℕ) (r : Row) → ((k : ℕ) → row_bit r k ≡ false) → (row k : ℕ) → path_in (replicate n r) row k ≡ false
unfolding path_in
path-zero n r none row k =
    cond_both (ltb row 129) _ _ (λ (u : ℕ → Bool). u k ≡ false) (λ _. false-rows n r none row k) (λ _. refl)
