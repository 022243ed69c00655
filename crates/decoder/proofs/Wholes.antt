-- A whole step, from what its parts promise. Assumes nothing.
use Rattle.std.proofs.Common.{◌≡◌, ℕ, suc, ◌+◌, ◌*◌, ◌^◌, ◌<◌, ◌≤◌, Bool, true, eqb, List, [], ◌∷◌, map, length, Some, None, Option, ℤ, w32, SFits, to_z, of_z, sym, refl, ap, ◌∙◌, subst, ap₂, arith}
use Rattle.std.proofs.lemmas.Bool.{cond-true, cond-false, eq-eqb, ne_eqb}
use Rattle.outer.specs.declared.check.Judge as Judge
use Rattle.store.specs.declared.store.Store as Store
use Rattle.std.proofs.lemmas.Int.{to_z-of_z}
use Rattle.cost.specs.Block.{llr_of, size_of}
use Rattle.cost.specs.Values.{contradicts}
use Rattle.cost.specs.Path.{decision}
use Rattle.cost.specs.Rows.{path_at}
use Rattle.cost.specs.declared.soft.Soft.{Soft}
use Rattle.cost.proofs.Path.{cost-fits}
use Rattle.plan.specs.Plans.{log_length, block_length}
use Rattle.search.specs.Lists.{Each}
use Rattle.search.specs.Paths.{Block, Kind, choices, parity_bit, allowed, child}
use Rattle.search.specs.Stores.{ruled, taken_from}
use Rattle.search.specs.Search.{put_children, after_take, judged, explored, step_from, step}
use Rattle.search.specs.Laws.{Exact, AllExact}
use Rattle.search.proofs.Lawful.{length-child, lawful-length}
use Rattle.search.proofs.Rules.{rules-make-a-store}
use Rattle.search.proofs.Exact.{stays-exact}
use Rattle.store.specs.declared.candidate.Candidate.{Candidate}
use Rattle.store.specs.Meaning as store
use Rattle.model.specs.Blocks.{kinds_of, bits_of, path_cost}
use Rattle.model.specs.Reading.{first_bits, candidate_in, contents_in}
use Rattle.model.proofs.Following.{same_read, take-follows}
use Rattle.model.proofs.Children.{first-length, cost-first, cost-child}
use Rattle.decoder.specs.Blocks.{plan_in, llr_in, soft_of}
use Rattle.decoder.specs.States.{contents_of, loaded_of, RowsApart, ShownWhole, Sound}
use Rattle.decoder.specs.Phases.{is_loaded}
use Rattle.decoder.specs.Steps.{path_of, MayPut, MayStep, Ready, Costs, Framed, Searched}
use Rattle.decoder.specs.declared.state.State.{State}
use Rattle.decoder.specs.declared.phase.Phase.TheVariants as phase
use Rattle.decoder.proofs.Apart.{apart-taken}

-- Children

child-costs :
    {S C : Type 0} (d : State S C) (c : Candidate) (bit : Bool) (more : ℕ) → c.length < block_length (plan_in d.block)
    → c.metric ≡ path_cost (log_length (plan_in d.block)) (llr_in d.block) (path_of d c)
    → more ≡ contradicts (decision (log_length (plan_in d.block)) (llr_in d.block) (path_at d.rows c.row) c.length) bit
    → Costs d c bit more
child-costs d c bit more place metric value =
    let n = log_length (plan_in d.block) in
    let llr = llr_in d.block in
    let u = path_at d.rows c.row in
    let p = first_bits u c.length in
    let total : c.metric + more ≡ path_cost n llr (child p bit) =
    ap₂ (λ x y. x + y) (metric ∙ cost-first n llr u c.length) value ∙ sym (cost-child n llr u c.length bit) in
    let size : length (child p bit) ≤ 2 ^ n = let a = length-child p bit in let b = first-length u c.length in omega arith in
    let most : path_cost n llr (child p bit) ≤ 2 ^ 30 = cost-fits n llr (bits_of (child p bit)) d.block.plan.sized.1 (λ k h. d.block.soft.bounded k) (length (child p bit)) size in
    record { cost = total; fits = omega arith }

-- where the decision value v was found as the program finds it, of soft values that are the block's
pub found-costs :
    {S C : Type 0} (d : State S C) (c : Candidate) (bit : Bool) (more : ℕ) (soft : Soft) (v : ℤ) (u : ℕ → Bool) → SFits w32 v → soft ≡ soft_of d.block
    → v ≡ decision (size_of soft) (llr_of soft) u c.length → u ≡ path_at d.rows c.row → more ≡ contradicts (to_z w32 (of_z w32 v)) bit
    → c.length < block_length (plan_in d.block) → c.metric ≡ path_cost (log_length (plan_in d.block)) (llr_in d.block) (path_of d c) → Costs d c bit more
found-costs d c bit more soft v u fits same value path adds place metric =
    let block = d.block in
    let of-block : v ≡ decision (log_length (plan_in block)) (llr_in block) u c.length =
    value ∙ ap (λ s. decision (size_of s) (llr_of s) u c.length) same ∙ ap (λ n. decision n (llr_in block) u c.length) block.sized in
    child-costs d c bit more place metric
    (adds ∙ ap (λ x. contradicts x bit) (to_z-of_z w32 v fits ∙ of-block ∙ ap (λ p. decision (log_length (plan_in block)) (llr_in block) p c.length) path))

pub costs-on :
    {S C : Type 0} (d d' : State S C) (c : Candidate) (bit : Bool) (more : ℕ) → d'.block ≡ d.block → path_of d' c ≡ path_of d c
    → Costs d c bit more → Costs d' c bit more
costs-on d d' c bit more block path costs = record {
  cost = costs.cost ∙ ap₂ (λ b q. path_cost (log_length (plan_in b)) (llr_in b) (child q bit)) (sym block) (sym path);
  fits = costs.fits;
}

pub ready_on :
    {S C : Type 0} (members : Store.Ghosts S) (judge : Judge.Ghosts C) (d d' : State S C) → Ready members judge d → d.counts.serial < 4294967294 → d'.phase ≡ d.phase
    → Each (λ k. k.serial < d'.counts.serial) (members.kept d'.store) → d'.counts.serial ≤ d.counts.serial + 1 → Ready members judge d'
ready_on members judge d d' ready small phase later serial = record { phase = phase ∙ ready.phase; later = later; fits = omega arith }

pub searched-on : {S C : Type 0} (a b c : State S C) → Searched a b → Searched b c → Searched a c
searched-on a b c p q = record {
  framed = record {
    check = q.framed.check ∙ p.framed.check;
    block = q.framed.block ∙ p.framed.block;
    most_failures = q.framed.most_failures ∙ p.framed.most_failures;
    most_steps = q.framed.most_steps ∙ p.framed.most_steps;
    steps = q.framed.steps ∙ p.framed.steps;
  };
  phase = q.phase ∙ p.phase;
  failures = q.failures ∙ p.failures;
}

-- which bits may follow the first i bits, by the kind of position i
pub allowed-first : (kinds : ℕ → Kind) (u : ℕ → Bool) (i : ℕ) (k : Kind) → kinds i ≡ k → allowed kinds (first_bits u i) ≡ choices k (parity_bit kinds (first_bits u i) i)
allowed-first kinds u i k e =
    ap (λ j. choices (kinds j) (parity_bit kinds (first_bits u i) j)) (first-length u i) ∙ ap (λ t. choices t (parity_bit kinds (first_bits u i) i)) e

-- Taking

abbrev or_else : Candidate → Option Candidate → Candidate
or_else c None = c
or_else c (Some d) = d

abbrev IsThere : Option Candidate → Type 0
IsThere None = ⊥
IsThere (Some d) = Unit {0}

pub takes-some : (k : List Candidate) (c : Candidate) → (store.takes k).answer ≡ Some c → k ≡ c ∷ (store.takes k).stays
takes-some [] c e = absurd (subst IsThere (sym e) tt)
takes-some (x ∷ xs) c e = ap (λ y. y ∷ xs) (ap (or_else x) e)

pub takes_none : (k : List Candidate) → (store.takes k).answer ≡ None → k ≡ []
takes_none [] e = refl
takes_none (x ∷ xs) e = absurd (subst IsThere e tt)

serials-of : (paths : ℕ → ℕ → Bool) (b : Block) (n : ℕ) (xs : List Candidate) → Each (Exact b n) (map (candidate_in paths) xs) → Each (λ k. k.serial < n) xs
serials-of paths b n [] h = tt
serials-of paths b n (x ∷ xs) h = (h.0.serial, serials-of paths b n xs h.1)

-- What a step leads to, if it leads to what the search's does

pub sound-step :
    {S C : Type 0} (members : Store.Ghosts S) (judge : Judge.Ghosts C) (d e : State S C) → Sound members judge d → loaded_of members judge e ≡ step ruled (loaded_of members judge d)
    → RowsApart (members.kept e.store) → e.counts.serial ≤ 2 * e.counts.steps + 1 → ShownWhole judge e e.phase → Sound members judge e
sound-step members judge d e sound model apart serials shown = record {
  exact = subst (AllExact ruled) (sym model) ((stays-exact ruled rules-make-a-store).steps (loaded_of members judge d) sound.exact);
  apart = apart;
  serials = serials;
  shown = shown;
}

-- d with another store and count of steps
abbrev pub taken : {S C : Type 0} (d : State S C) → S → ℕ → d.counts.most_failures ≤ 64 → d.counts.most_steps ≤ 16777216 → State S C
taken d s steps few brief = record {
  store = s;
  check = d.check;
  block = d.block;
  rows = d.rows;
  counts = record { most_failures = d.counts.most_failures; most_steps = d.counts.most_steps; serial = d.counts.serial; steps = steps; failures = d.counts.failures; few = few; brief = brief };
  phase = d.phase;
}

-- d' is d after the take of c, with the step counted
pub record Took {S C : Type 0} (members : Store.Ghosts S) (judge : Judge.Ghosts C) (d d' : State S C) (c : Candidate) : Type 0 where
  pub answer : (store.takes (members.kept d.store)).answer ≡ Some c
  pub kept : members.kept d'.store ≡ (store.takes (members.kept d.store)).stays
  pub capacity : members.capacity d'.store ≡ members.capacity d.store
  pub floor : members.floor d'.store ≡ store.lowered store.metric_of (members.floor d.store) (store.takes (members.kept d.store)).shed
  pub rows : d'.rows ≡ d.rows
  pub check : d'.check ≡ d.check
  pub block : d'.block ≡ d.block
  pub most_failures : d'.counts.most_failures ≡ d.counts.most_failures
  pub most_steps : d'.counts.most_steps ≡ d.counts.most_steps
  pub serial : d'.counts.serial ≡ d.counts.serial
  pub steps : d'.counts.steps ≡ suc d.counts.steps
  pub failures : d'.counts.failures ≡ d.counts.failures
  pub phase : d'.phase ≡ d.phase

pub after-take :
    {S C : Type 0} (members : Store.Ghosts S) (judge : Judge.Ghosts C) (d : State S C) (s : S) (steps : ℕ) (few : d.counts.most_failures ≤ 64) (brief : d.counts.most_steps ≤ 16777216) (c : Candidate)
    → (store.takes (members.kept d.store)).answer ≡ Some c → members.kept s ≡ (store.takes (members.kept d.store)).stays → members.capacity s ≡ members.capacity d.store
    → members.floor s ≡ store.lowered store.metric_of (members.floor d.store) (store.takes (members.kept d.store)).shed → steps ≡ suc d.counts.steps
    → Took members judge d (taken d s steps few brief) c
after-take members judge d s steps few brief c answer kept capacity floor counted = record {
  answer = answer;
  kept = kept;
  capacity = capacity;
  floor = floor;
  rows = refl;
  check = refl;
  block = refl;
  most_failures = refl;
  most_steps = refl;
  serial = refl;
  steps = counted;
  failures = refl;
  phase = refl;
}

-- a step that finds nothing leaves the state as it is
pub none-taken :
    {S C : Type 0} (members : Store.Ghosts S) (judge : Judge.Ghosts C) (d : State S C) (s : S) → (store.takes (members.kept d.store)).answer ≡ None
    → members.kept s ≡ (store.takes (members.kept d.store)).stays → members.capacity s ≡ members.capacity d.store
    → members.floor s ≡ store.lowered store.metric_of (members.floor d.store) (store.takes (members.kept d.store)).shed
    → loaded_of members judge (record { store = s; check = d.check; block = d.block; rows = d.rows; counts = d.counts; phase = d.phase }) ≡ step ruled (loaded_of members judge d)
unfolding store.lowered
none-taken members judge d s none kept capacity floor =
    let empty : members.kept d.store ≡ [] = takes_none (members.kept d.store) none in
    let paths = path_at d.rows in
    let same : contents_in paths (members.kept s) (members.capacity s) (members.floor s) ≡ contents_of members d =
    same_read paths (kept ∙ ap (λ k. (store.takes k).stays) empty ∙ sym empty) capacity (floor ∙ ap (λ k. store.lowered store.metric_of (members.floor d.store) (store.takes k).shed) empty) in
    ap (λ x. record { block = (loaded_of members judge d).block; most_failures = (loaded_of members judge d).most_failures; most_steps = (loaded_of members judge d).most_steps; store = x; serial = (loaded_of members judge d).serial; steps = (loaded_of members judge d).steps; failures = (loaded_of members judge d).failures; phase = (loaded_of members judge d).phase }) same
    ∙ sym (ap (λ k. step_from ruled (loaded_of members judge d) (map (candidate_in paths) k)) empty)

module _ {S C : Type 0} (members : Store.Ghosts S) (judge : Judge.Ghosts C) (d d' : State S C) (c : Candidate) (took : Took members judge d d' c) where
  abbrev paths : ℕ → ℕ → Bool
  paths = path_at d.rows

  abbrev rest : List Candidate
  rest = (store.takes (members.kept d.store)).stays

  first : members.kept d.store ≡ c ∷ rest
  first = takes-some (members.kept d.store) c took.answer

  loaded-took : loaded_of members judge d' ≡ after_take ruled (loaded_of members judge d)
  loaded-took =
      let stored : contents_in paths (members.kept d'.store) (members.capacity d'.store) (members.floor d'.store) ≡ taken_from (contents_of members d) =
      take-follows paths (members.kept d.store) (members.capacity d.store) (members.floor d.store) (members.kept d'.store) (members.capacity d'.store) (members.floor d'.store) took.kept took.capacity took.floor in
      cc

  step-explores : step ruled (loaded_of members judge d) ≡ explored ruled (candidate_in paths c) (after_take ruled (loaded_of members judge d))
  step-explores = ap (λ k. step_from ruled (loaded_of members judge d) (map (candidate_in paths) k)) first

  module _ (sound : Sound members judge d) where
    exact : Each (Exact (loaded_of members judge d).block d.counts.serial) (candidate_in paths c ∷ map (candidate_in paths) rest)
    exact = subst (λ k. Each (Exact (loaded_of members judge d).block d.counts.serial) (map (candidate_in paths) k)) first sound.exact

    took-metric : c.metric ≡ path_cost (log_length (plan_in d'.block)) (llr_in d'.block) (path_of d' c)
    took-metric = exact.0.metric ∙ ap₂ (λ b r. path_cost (log_length (plan_in b)) (llr_in b) (first_bits (path_at r c.row) c.length)) (sym took.block) (sym took.rows)

    took-length : c.length ≤ block_length (plan_in d.block)
    took-length = let h = lawful-length (loaded_of members judge d).block (first_bits (paths c.row) c.length) exact.0.lawful in let k = first-length (paths c.row) c.length in omega arith

    pub took-whole : block_length (plan_in d.block) ≤ c.length → c.length ≡ block_length (plan_in d.block)
    took-whole long = let h = took-length in omega arith

    took-serials : d.counts.steps < d.counts.most_steps → d'.counts.serial < 4294967294
    took-serials steps = let h = sound.serials in let k = d.counts.brief in let e = took.serial in omega arith

    took-ready : d.phase ≡ phase.Searching → d.counts.steps < d.counts.most_steps → Ready members judge d'
    took-ready searching steps = record {
      phase = took.phase ∙ searching;
      later = subst (λ n. Each (λ k. k.serial < n) (members.kept d'.store)) (sym took.serial) (subst (Each (λ k. k.serial < d.counts.serial)) (sym took.kept) (serials-of paths (loaded_of members judge d).block d.counts.serial rest exact.1));
      fits = let h = took-serials steps in omega arith;
    }

    pub took-may : d.phase ≡ phase.Searching → d.counts.steps < d.counts.most_steps → MayPut members judge d' c
    took-may searching steps = record { ready = took-ready searching steps; serials = took-serials steps; metric = took-metric }

    pub took-apart : RowsApart (members.kept d'.store)
    took-apart = apart-taken (members.kept d.store) (members.kept d'.store) sound.apart took.kept

  -- what became of d' is what a step makes of d

  pub children-put :
      (e : State S C) → c.length < block_length (plan_in d.block)
      → loaded_of members judge e ≡ put_children ruled (path_of d' c) (loaded_of members judge d') (allowed (kinds_of (plan_in d'.block)) (path_of d' c))
      → loaded_of members judge e ≡ step ruled (loaded_of members judge d)
  children-put e part model =
      model
      ∙ ap₂ (λ l r. put_children ruled (first_bits (path_at r c.row) c.length) l (allowed l.block.kind (first_bits (path_at r c.row) c.length))) loaded-took took.rows
      ∙ sym (step-explores ∙ cond-false (eqb c.length (block_length (plan_in d.block))) (judged (candidate_in paths c) (after_take ruled (loaded_of members judge d))) _ (ne_eqb c.length (block_length (plan_in d.block)) (λ h. omega arith)))

  pub word-judged :
      (e : State S C) → c.length ≡ block_length (plan_in d.block)
      → loaded_of members judge e ≡ judged (candidate_in (path_at d'.rows) c) (loaded_of members judge d')
      → loaded_of members judge e ≡ step ruled (loaded_of members judge d)
  word-judged e whole model =
      model ∙ ap₂ (λ r l. judged (candidate_in (path_at r) c) l) took.rows loaded-took
      ∙ sym (step-explores ∙ cond-true (eqb c.length (block_length (plan_in d.block))) (judged (candidate_in paths c) (after_take ruled (loaded_of members judge d))) _ (eq-eqb c.length (block_length (plan_in d.block)) whole))

-- What a step promises, where e is what it makes of d

pub record Stepped {S C : Type 0} (members : Store.Ghosts S) (judge : Judge.Ghosts C) (d e : State S C) : Type 0 where
  pub model : loaded_of members judge e ≡ step ruled (loaded_of members judge d)
  pub sound : Sound members judge e
  pub loaded : is_loaded e.phase ≡ true
  pub check : (e.check ≡ d.check) × (e.block ≡ d.block)

searching-whole : {S C : Type 0} (members : Store.Ghosts S) (judge : Judge.Ghosts C) (e : State S C) → e.phase ≡ phase.Searching → ShownWhole judge e e.phase
searching-whole members judge e h = subst (ShownWhole judge e) (sym h) tt

pub children-step :
    {S C : Type 0} (members : Store.Ghosts S) (judge : Judge.Ghosts C) (d d' e : State S C) (c : Candidate) → MayStep members judge d → c.length < block_length (plan_in d.block)
    → loaded_of members judge e ≡ put_children ruled (path_of d' c) (loaded_of members judge d') (allowed (kinds_of (plan_in d'.block)) (path_of d' c))
    → ((RowsApart (members.kept d'.store) → RowsApart (members.kept e.store)) × (e.counts.serial ≤ d'.counts.serial + 2))
    → Searched d' e → Took members judge d d' c → d'.phase ≡ d.phase → d'.check ≡ d.check → d'.block ≡ d.block
    → Stepped members judge d e
children-step members judge d d' e c may part puts apart frame took here check block = record {
  model = model;
  sound =
      sound-step members judge d e may.sound model (apart.0 (took-apart members judge d d' c took may.sound))
      (let h = apart.1 in let k = may.sound.serials in let a = took.serial in let b = took.steps in let n = frame.framed.steps in omega arith)
      (searching-whole members judge e (frame.phase ∙ here ∙ may.searching));
  loaded = ap is_loaded (frame.phase ∙ here ∙ may.searching);
  check = (frame.framed.check ∙ check, frame.framed.block ∙ block);
}
  where
    model : loaded_of members judge e ≡ step ruled (loaded_of members judge d)
    model =
        children-put members judge d d' c took e part puts

pub word-step :
    {S C : Type 0} (members : Store.Ghosts S) (judge : Judge.Ghosts C) (d d' e : State S C) (c : Candidate) → MayStep members judge d → block_length (plan_in d.block) ≤ c.length
    → loaded_of members judge e ≡ judged (candidate_in (path_at d'.rows) c) (loaded_of members judge d')
    → ((e.store ≡ d'.store) × (e.counts.serial ≡ d'.counts.serial)) → Framed d' e
    → ShownWhole judge e e.phase → is_loaded e.phase ≡ true
    → Took members judge d d' c → d'.phase ≡ d.phase → d'.check ≡ d.check → d'.block ≡ d.block
    → Stepped members judge d e
word-step members judge d d' e c may long judges same frame shown loaded took here check block = record {
  model = model;
  sound =
      sound-step members judge d e may.sound model (subst (λ s. RowsApart (members.kept s)) (sym same.0) (took-apart members judge d d' c took may.sound))
      (let k = may.sound.serials in let a = took.serial in let b = took.steps in let n = frame.steps in let h = same.1 in omega arith)
      shown;
  loaded = loaded;
  check = (frame.check ∙ check, frame.block ∙ block);
}
  where
    model : loaded_of members judge e ≡ step ruled (loaded_of members judge d)
    model =
        word-judged members judge d d' c took e (took-whole members judge d d' c took may.sound long) judges
