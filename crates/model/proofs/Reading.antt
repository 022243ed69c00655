-- That a store as it is read is the store of the rules. Assumes nothing.
use Rattle.std.proofs.Common.{◌≡◌, ℕ, zero, suc, ◌<◌, ◌≤◌, Bool, false, cond, ◌&&◌, eqb, ltb, List, [], ◌∷◌, map, length, take, drop, Some, None, Option, sym, refl, ap, ◌∙◌, ap₂, arith}
use Rattle.std.proofs.lemmas.List.{length-map, length-drop, take-map, drop-map, take_all, drop_all}
use Rattle.std.proofs.lemmas.Bool.{cond_both, ltb-true, ltb-false, or_parts}
use Rattle.std.proofs.lemmas.Bool.Decides.{nat_tests}
use Rattle.std.specs.List.{AllByRecursion}
use Rattle.cost.specs.Rows.{with_path}
use Rattle.search.specs.Lists.{Each}
use Rattle.search.specs.Stores as search
use Rattle.store.specs.declared.candidate.Candidate.{Candidate}
use Rattle.store.specs.Meaning as store
use Rattle.store.specs.Lesser.{lesser_of}
use Rattle.store.specs.Order.{before}
use Rattle.store.specs.Ordered.{inserted}
use Rattle.store.proofs.Inserts.{inserted-map, length_inserted}
use Rattle.model.specs.Reading.{first_bits, candidate_in, contents_in}
use Rattle.model.specs.Laws.{StoreReadsAsRuled}

-- Order

rows_aside : (a b : Candidate) → a.serial < b.serial → (paths : ℕ → ℕ → Bool) → before a b ≡ search.before (candidate_in paths a) (candidate_in paths b)
unfolding before
rows_aside a b h paths = grind (arith, nat_tests)

inserted-alike : (xs : List search.Candidate) (c : search.Candidate) → inserted search.before xs c ≡ search.inserted xs c
unfolding inserted
inserted-alike [] c = refl
inserted-alike (x ∷ xs) c = ap (λ ys. cond (search.before x c) (x ∷ ys) (c ∷ x ∷ xs)) (inserted-alike xs c)

each-aside : (paths : ℕ → ℕ → Bool) (xs : List Candidate) (c : Candidate) → Each (λ k. k.serial < c.serial) xs → AllByRecursion (λ k. before k c ≡ search.before (candidate_in paths k) (candidate_in paths c)) xs
each-aside paths [] c h = tt
each-aside paths (x ∷ xs) c h = (rows_aside x c h.0 paths, each-aside paths xs c h.1)

-- Shedding

last-shed : (xs : List search.Candidate) (n : ℕ) → length xs ≡ suc n → (search.all_but_last xs ≡ take n xs) × (search.last_metric xs ≡ search.first_metric (drop n xs))
last-shed [] n h = absurd (omega arith)
last-shed (x ∷ []) zero h = (refl, refl)
last-shed (x ∷ []) (suc n) h = absurd (omega arith)
last-shed (x ∷ (y ∷ ys)) zero h = absurd (omega arith)
last-shed (x ∷ (y ∷ ys)) (suc n) h = let (a, b) = last-shed (y ∷ ys) n (omega arith) in (ap (λ zs. x ∷ zs) a, b)

lesser-alike : (a b : Option ℕ) → lesser_of a b ≡ search.lesser a b
lesser-alike None b = refl
lesser-alike (Some a) None = refl
lesser-alike (Some a) (Some b) = refl

lowered_none : (floor : Option ℕ) → store.lowered store.metric_of floor [] ≡ floor
unfolding store.lowered
lowered_none floor = refl

-- what is shed is one candidate
lowered-one : (paths : ℕ → ℕ → Bool) (floor : Option ℕ) (xs : List Candidate) → length xs ≡ 1 → search.lesser floor (search.first_metric (map (candidate_in paths) xs)) ≡ store.lowered store.metric_of floor xs
unfolding store.lowered
lowered-one paths floor [] h = absurd (omega arith)
lowered-one paths floor (x ∷ []) h = sym (lesser-alike floor (Some x.metric))
lowered-one paths floor (x ∷ (y ∷ ys)) h = absurd (omega arith)

abbrev made : ℕ → List search.Candidate → Option ℕ → search.Contents
made n kept floor = record { kept = kept; capacity = n; floor = floor }

same-contents : (n : ℕ) {xs ys : List search.Candidate} {f g : Option ℕ} → xs ≡ ys → f ≡ g → made n xs f ≡ made n ys g
same-contents n p q = ap₂ (made n) p q

-- Put

module _ (paths : ℕ → ℕ → Bool) (kept : List Candidate) (capacity : ℕ) (floor : Option ℕ) (c : Candidate) (later : Each (λ k. k.serial < c.serial) kept) where
  abbrev with_it : List Candidate
  with_it = inserted before kept c

  read-inserted : search.inserted (map (candidate_in paths) kept) (candidate_in paths c) ≡ map (candidate_in paths) with_it
  read-inserted =
      sym (inserted-alike (map (candidate_in paths) kept) (candidate_in paths c))
      ∙ sym (inserted-map before search.before (candidate_in paths) kept c (each-aside paths kept c later))

  with-it-length : length with_it ≡ suc (length kept)
  with-it-length = length_inserted before kept c

  room : length kept < capacity → search.keeping_all (contents_in paths kept capacity floor) (candidate_in paths c) ≡ contents_in paths (take capacity with_it) capacity (store.lowered store.metric_of floor (drop capacity with_it))
  room h =
      let long = with-it-length in
      let fits : length with_it ≤ capacity = omega arith in
      same-contents capacity
      (read-inserted ∙ sym (ap (map (candidate_in paths)) (take_all capacity with_it fits)))
      (sym (ap (store.lowered store.metric_of floor) (drop_all capacity with_it fits) ∙ lowered_none floor))

  full : length kept ≡ capacity → search.shedding_last (contents_in paths kept capacity floor) (candidate_in paths c) ≡ contents_in paths (take capacity with_it) capacity (store.lowered store.metric_of floor (drop capacity with_it))
  full h =
      let read = map (candidate_in paths) with_it in
      let long : length read ≡ suc capacity = length-map with_it (candidate_in paths) ∙ with-it-length ∙ ap suc h in
      let (front, last) = last-shed read capacity long in
      let one : length (drop capacity with_it) ≡ 1 = length-drop capacity with_it ∙ (let k = with-it-length in omega arith) in
      same-contents capacity
      (ap search.all_but_last read-inserted ∙ front ∙ take-map (candidate_in paths) capacity with_it)
      (ap (λ xs. search.lesser floor (search.last_metric xs)) read-inserted ∙ ap (search.lesser floor) (last ∙ ap search.first_metric (drop-map (candidate_in paths) capacity with_it)) ∙ lowered-one paths floor (drop capacity with_it) one)

  pub read-put : length kept ≤ capacity → search.put_into (contents_in paths kept capacity floor) (candidate_in paths c) ≡ contents_in paths (store.puts before capacity kept c).stays capacity (store.lowered store.metric_of floor (store.puts before capacity kept c).shed)
  read-put h =
      let size = length-map kept (candidate_in paths) in
      cond_both (ltb (length (map (candidate_in paths) kept)) capacity) _ _ (λ x. x ≡ contents_in paths (take capacity with_it) capacity (store.lowered store.metric_of floor (drop capacity with_it)))
      (λ e. let l = ltb-true (length (map (candidate_in paths) kept)) capacity e in room (omega arith))
      (λ e. let l = ltb-false (length (map (candidate_in paths) kept)) capacity e in full (omega arith))

-- Take, empty and write

read_taken : (paths : ℕ → ℕ → Bool) (kept : List Candidate) (capacity : ℕ) (floor : Option ℕ) → search.taken_from (contents_in paths kept capacity floor) ≡ contents_in paths (store.takes kept).stays capacity (store.lowered store.metric_of floor (store.takes kept).shed)
read_taken paths [] capacity floor = same-contents capacity refl (sym (lowered_none floor))
read_taken paths (c ∷ cs) capacity floor = same-contents capacity refl (sym (lowered_none floor))

read_first : (paths : ℕ → ℕ → Bool) (kept : List Candidate) → search.first_metric (map (candidate_in paths) kept) ≡ store.first_metric kept
read_first paths [] = refl
read_first paths (c ∷ cs) = refl

held : (n : ℕ) → search.held_capacity n ≡ store.held_capacity n
held n = omega arith

-- the path in the row of a candidate decides on how it is read
abbrev along : Candidate → (ℕ → Bool) → search.Candidate
along c path = record { metric = c.metric; length = c.length; serial = c.serial; path = first_bits path c.length }

elsewhere : (paths : ℕ → ℕ → Bool) (row : ℕ) (path : ℕ → Bool) (c : Candidate) → eqb c.row row ≡ false → candidate_in (with_path paths row path) c ≡ candidate_in paths c
elsewhere paths row path c e = ap (λ b. along c (cond (b && ltb row 129) path (paths c.row))) e

pub read-written : (paths : ℕ → ℕ → Bool) (row : ℕ) (path : ℕ → Bool) (kept : List Candidate) → store.holds_row row kept ≡ false → map (candidate_in (with_path paths row path)) kept ≡ map (candidate_in paths) kept
unfolding store.holds_row
read-written paths row path [] h = refl
read-written paths row path (c ∷ cs) h =
    let (here, later) = or_parts (eqb c.row row) (store.holds_row row cs) h in
    ap₂ (λ x xs. x ∷ xs) (elsewhere paths row path c here) (read-written paths row path cs later)

pub reads-as-ruled : StoreReadsAsRuled
reads-as-ruled paths kept capacity floor = record {
  emptied = λ wanted. ap (λ n. made n [] None) (held wanted);
  taken = read_taken paths kept capacity floor;
  put = λ c h later. read-put paths kept capacity floor c later h;
  first = read_first paths kept;
  written = λ row path free. same-contents capacity (read-written paths row path kept free) refl;
}
