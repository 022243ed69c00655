-- One child after the other: what a put into a free row does to the decoder as it is read. Assumes nothing.
use Rattle.std.proofs.Common.{◌≡◌, ℕ, zero, suc, ◌+◌, ◌<◌, ◌≤◌, Bool, true, false, cond, ◌&&◌, eqb, ltb, List, [], ◌∷◌, length, take, ℤ, Option, sym, refl, ap, ◌∙◌, subst, ap₂, arith}
use Rattle.std.proofs.lemmas.Bool.{cond-true, cond-false, eq-eqb, lt-ltb}
use Rattle.bits.specs.Row.{set_bit}
use Rattle.cost.specs.Rows.{with_path}
use Rattle.plan.specs.declared.plan.Plan.{Plan}
use Rattle.plan.specs.Plans.{log_length, payload_bits}
use Rattle.search.specs.Lists.{Each}
use Rattle.search.specs.Paths.{is_information, information_from, child}
use Rattle.search.specs.Stores as search
use Rattle.search.specs.Calls.{Loaded}
use Rattle.search.specs.Calls as calls
use Rattle.search.specs.Search.{is_left_out, with_put, put_child}
use Rattle.search.proofs.Lawful.{length-child}
use Rattle.store.specs.declared.candidate.Candidate.{Candidate}
use Rattle.store.specs.Meaning as store
use Rattle.store.specs.Order.{before}
use Rattle.store.specs.Ordered.{inserted}
use Rattle.model.specs.Blocks.{Meaning, kinds_of, path_cost, block_of}
use Rattle.model.specs.Reading.{first_bits, candidate_in, contents_in}
use Rattle.model.proofs.Reading.{reads-as-ruled}
use Rattle.model.proofs.Following.{put-follows}
use Rattle.model.proofs.Children.{first-length, first-same, first-child, set_before}
use Rattle.decoder.specs.States.{phase_in}
use Rattle.decoder.specs.declared.phase.Phase.{Phase}
use Rattle.decoder.specs.declared.phase.Phase.TheVariants as phase

-- Serials

each-inserted : (P : Candidate → Type 0) (xs : List Candidate) (c : Candidate) → Each P xs → P c → Each P (inserted before xs c)
unfolding inserted
each-inserted P [] c h k = (k, tt)
each-inserted P (x ∷ xs) c h k =
    elim (before x c) as (λ b. Each P (cond b (x ∷ inserted before xs c) (c ∷ x ∷ xs)))
    [ true ↦ (h.0, each-inserted P xs c h.1 k) | false ↦ (k, h) ]

each_take : (P : Candidate → Type 0) (n : ℕ) (xs : List Candidate) → Each P xs → Each P (take n xs)
each_take P zero xs h = tt
each_take P (suc n) [] h = tt
each_take P (suc n) (x ∷ xs) h = (h.0, each_take P n xs h.1)

each-later : (m n : ℕ) (xs : List Candidate) → m ≤ n → Each (λ k. k.serial < m) xs → Each (λ k. k.serial < n) xs
each-later m n [] l h = tt
each-later m n (x ∷ xs) l h = (let a = h.0 in omega arith, each-later m n xs l h.1)

pub put-later : (n : ℕ) (xs ys : List Candidate) (c : Candidate) (next : ℕ) → Each (λ k. k.serial < c.serial) xs → c.serial < next → ys ≡ (store.puts before n xs c).stays → Each (λ k. k.serial < next) ys
put-later n xs ys c next h l e =
    subst (Each (λ k. k.serial < next)) (sym e)
    (each_take (λ k. k.serial < next) n (inserted before xs c) (each-inserted (λ k. k.serial < next) xs c (each-later c.serial next xs (omega arith) h) l))

-- The child's row

module _
    (paths paths' : ℕ → ℕ → Bool) (c : Candidate) (bit : Bool) (row : ℕ)
    (written : paths' ≡ with_path paths row (set_bit (paths c.row) c.length bit))
  where
    pub parent-path : first_bits (paths' c.row) c.length ≡ first_bits (paths c.row) c.length
    parent-path =
        ap (λ p. first_bits (p c.row) c.length) written
        ∙ elim (eqb c.row row && ltb row 129) as (λ b. first_bits (cond b (set_bit (paths c.row) c.length bit) (paths c.row)) c.length ≡ first_bits (paths c.row) c.length)
        [ true ↦ first-same (set_bit (paths c.row) c.length bit) (paths c.row) c.length (set_before (paths c.row) c.length bit) | false ↦ refl ]

    pub child-path : row < 129 → c.length < 1024 → first_bits (paths' row) (c.length + 1) ≡ child (first_bits (paths c.row) c.length) bit
    child-path inside place =
        let next : c.length + 1 ≡ suc c.length = omega arith in
        ap (λ p. first_bits (p row) (c.length + 1)) written
        ∙ ap₂ (λ s t. first_bits (cond (s && t) (set_bit (paths c.row) c.length bit) (paths row)) (c.length + 1)) (eq-eqb row row refl) (lt-ltb row 129 inside)
        ∙ ap (first_bits (set_bit (paths c.row) c.length bit)) next
        ∙ first-child (paths c.row) c.length bit place

-- The state

module _
    (plan : Plan) (llr : ℕ → ℤ) (check : Meaning) (most_failures most_steps steps failures : ℕ) (ph : Phase)
    (paths paths' : ℕ → ℕ → Bool) (k : List Candidate) (n : ℕ) (f : Option ℕ) (serial : ℕ) (c : Candidate) (bit : Bool) (row : ℕ)
    (searching : ph ≡ phase.Searching) (written : paths' ≡ with_path paths row (set_bit (paths c.row) c.length bit))
    (inside : row < 129) (place : c.length < 1024) (free : store.holds_row row k ≡ false)
  where
    abbrev built : search.Contents → ℕ → calls.Phase → Loaded search.Contents
    built s z φ = record { block = block_of plan llr check; most_failures = most_failures; most_steps = most_steps; store = s; serial = z; steps = steps; failures = failures; phase = φ }

    abbrev path : List Bool
    path = first_bits (paths c.row) c.length

    abbrev hopeless_row : Bool
    hopeless_row = is_information (kinds_of plan c.length) && check.hopeless (payload_bits plan) (information_from (kinds_of plan) 0 (first_bits (paths' row) (c.length + 1)))

    abbrev start : Loaded search.Contents
    start = built (contents_in paths k n f) serial (phase_in paths ph)

    same-phase : phase_in paths' ph ≡ phase_in paths ph
    same-phase = ap (phase_in paths') searching ∙ sym (ap (phase_in paths) searching)

    untouched : contents_in paths' k n f ≡ contents_in paths k n f
    untouched = ap (λ p. contents_in p k n f) written ∙ (reads-as-ruled paths k n f).written row (set_bit (paths c.row) c.length bit) free

    left : is_left_out (block_of plan llr check) path bit ≡ hopeless_row
    left =
        ap₂ (λ i w. is_information (kinds_of plan i) && check.hopeless (payload_bits plan) (information_from (kinds_of plan) 0 w))
        (first-length (paths c.row) c.length) (sym (child-path paths paths' c bit row written inside place))

    pub skips : hopeless_row ≡ true → built (contents_in paths' k n f) serial (phase_in paths' ph) ≡ put_child search.ruled path start bit
    skips e =
        ap₂ (λ s φ. built s serial φ) untouched same-phase
        ∙ sym (cond-true (is_left_out (block_of plan llr check) path bit) start (with_put search.ruled start (child path bit)) (left ∙ e))

    module _ (k' : List Candidate) (n' : ℕ) (f' : Option ℕ) (serial' metric length' : ℕ) where
      abbrev new : Candidate
      new = record { metric = metric; length = length'; serial = serial; row = row }

      abbrev made : ℕ → ℕ → List Bool → search.Candidate
      made m l q = record { metric = m; length = l; serial = serial; path = q }

      pub puts-child :
          hopeless_row ≡ false → serial' ≡ suc serial → length' ≡ c.length + 1 → metric ≡ path_cost (log_length plan) llr (child path bit)
          → k' ≡ (store.puts before n k new).stays → n' ≡ n → f' ≡ store.lowered store.metric_of f (store.puts before n k new).shed
          → length k ≤ n → Each (λ d. d.serial < serial) k
          → built (contents_in paths' k' n' f') serial' (phase_in paths' ph) ≡ put_child search.ruled path start bit
      puts-child e next long cost kept capacity floor within later =
          let size : length' ≡ length (child path bit) = long ∙ (let a = first-length (paths c.row) c.length in let b = length-child path bit in omega arith) in
          let bits : first_bits (paths' row) length' ≡ child path bit = ap (first_bits (paths' row)) long ∙ child-path paths paths' c bit row written inside place in
          let read : candidate_in paths' new ≡ made (path_cost (log_length plan) llr (child path bit)) (length (child path bit)) (child path bit) =
          ap₂ (λ m l. made m l (first_bits (paths' row) length')) cost size ∙ ap (made (path_cost (log_length plan) llr (child path bit)) (length (child path bit))) bits in
          let stored : contents_in paths' k' n' f' ≡ search.put_into (contents_in paths k n f) (made (path_cost (log_length plan) llr (child path bit)) (length (child path bit)) (child path bit)) =
          put-follows paths' k n f k' n' f' new kept capacity floor within later ∙ ap₂ search.put_into untouched read in
          ap₂ (λ s z. built s z (phase_in paths' ph)) stored next
          ∙ ap (built (search.put_into (contents_in paths k n f) (made (path_cost (log_length plan) llr (child path bit)) (length (child path bit)) (child path bit))) (suc serial)) same-phase
          ∙ sym (cond-false (is_left_out (block_of plan llr check) path bit) start (with_put search.ruled start (child path bit)) (left ∙ e))
