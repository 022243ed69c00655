-- A store as it is read, followed from call to call by what each call promises. Assumes nothing.
use Rattle.std.proofs.Common.{◌≡◌, ℕ, ◌<◌, ◌≤◌, Bool, List, [], length, None, Option, sym, refl, ap, ◌∙◌, subst, ap₂, arith}
use Rattle.search.specs.Lists.{Each}
use Rattle.search.specs.Stores as search
use Rattle.search.specs.Search.{root}
use Rattle.store.specs.declared.candidate.Candidate.{Candidate}
use Rattle.store.specs.Meaning as store
use Rattle.store.specs.Order.{before}
use Rattle.model.specs.Reading.{first_bits, candidate_in, contents_in}
use Rattle.model.proofs.Reading.{read-put, reads-as-ruled}

pub same_read : (paths : ℕ → ℕ → Bool) {xs ys : List Candidate} {m n : ℕ} {f g : Option ℕ} → xs ≡ ys → m ≡ n → f ≡ g → contents_in paths xs m f ≡ contents_in paths ys n g
same_read paths {xs} {ys} {m} {n} {f} {g} p q r = ap₂ (λ k c. contents_in paths k c f) p q ∙ ap (contents_in paths ys n) r

module _ (paths : ℕ → ℕ → Bool) (k : List Candidate) (n : ℕ) (f : Option ℕ) (k' : List Candidate) (n' : ℕ) (f' : Option ℕ) where
  pub put-follows :
      (c : Candidate) → k' ≡ (store.puts before n k c).stays → n' ≡ n → f' ≡ store.lowered store.metric_of f (store.puts before n k c).shed
      → length k ≤ n → Each (λ d. d.serial < c.serial) k → contents_in paths k' n' f' ≡ search.put_into (contents_in paths k n f) (candidate_in paths c)
  put-follows c kept capacity floor within later = same_read paths kept capacity floor ∙ sym (read-put paths k n f c later within)

  pub take-follows :
      k' ≡ (store.takes k).stays → n' ≡ n → f' ≡ store.lowered store.metric_of f (store.takes k).shed
      → contents_in paths k' n' f' ≡ search.taken_from (contents_in paths k n f)
  take-follows kept capacity floor = same_read paths kept capacity floor ∙ sym (reads-as-ruled paths k n f).taken

pub empty-follows : (paths : ℕ → ℕ → Bool) (k : List Candidate) (n : ℕ) (f : Option ℕ) (wanted : ℕ) → k ≡ [] → n ≡ store.held_capacity wanted → f ≡ None → contents_in paths k n f ≡ search.emptied_to wanted
empty-follows paths k n f wanted kept capacity floor = same_read paths kept capacity floor ∙ sym ((reads-as-ruled paths [] 0 None).emptied wanted)

root-read : (paths : ℕ → ℕ → Bool) (row : ℕ) → candidate_in paths (record { metric = 0; length = 0; serial = 0; row = row }) ≡ root
unfolding first_bits
root-read paths row = refl

pub start-follows :
    (paths : ℕ → ℕ → Bool) (k k' : List Candidate) (n n' : ℕ) (f f' : Option ℕ) (wanted row : ℕ)
    → let c : Candidate = record { metric = 0; length = 0; serial = 0; row = row } in
    k ≡ [] → n ≡ store.held_capacity wanted → f ≡ None
    → k' ≡ (store.puts before n k c).stays → n' ≡ n → f' ≡ store.lowered store.metric_of f (store.puts before n k c).shed
    → contents_in paths k' n' f' ≡ search.put_into (search.emptied_to wanted) root
start-follows paths k k' n n' f f' wanted row none capacity floor kept capacity' floor' =
    let c : Candidate = record { metric = 0; length = 0; serial = 0; row = row } in
    let within : length k ≤ n = let e : length k ≡ 0 = ap length none in omega arith in
    let later : Each (λ d. d.serial < 0) k = subst (Each (λ d. d.serial < 0)) (sym none) tt in
    put-follows paths k n f k' n' f' c kept capacity' floor' within later
    ∙ ap₂ search.put_into (empty-follows paths k n f wanted none capacity floor) (root-read paths row)
