-- An advance keeps to its budget, and the metrics of kept candidates stay exact. Assumes a store's laws.
use Rattle.std.proofs.Common.{◌≡◌, ℕ, zero, suc, ◌+◌, ◌≤◌, Bool, true, false, cond, not, ◌&&◌, eqb, ltb, List, [], ◌∷◌, length, Some, None, Option, sym, refl, ap, ◌∙◌, subst, inl, inr, arith}
use Rattle.std.proofs.lemmas.Bool.{ltb-true, lt-ltb, eqb-false, eq-eqb, and_from, and_parts}
use Rattle.base.specs.declared.refusal.Refusal.{Refusal}
use Rattle.search.specs.Lists.{Among, Each}
use Rattle.search.specs.Paths.{Block, BlockLaws, lawful, allowed, child, information_bits}
use Rattle.search.specs.Stores.{Candidate, Store, StoreLaws, Keeps, behind_first}
use Rattle.search.specs.Calls.{Request, Call, Load, Advance, Strike, Word, Report, Phase, Searching, Shown, Ended, Loaded, Decoder, Blank, Busy, Met, Paused, Payload}
use Rattle.search.specs.Search.{is_left_out, load_refusal, root, loaded, in_phase, after_take, failed, judged, with_put, put_child, put_children, explored, step_from, step, halt_at, spent, unless_halted, unless_shown, advanced, advance_refusal, word_refusal, store_of, unless_refused, reporting, advancing, in_searching, struck, wording, called, shown_payload}
use Rattle.search.specs.Records.{LawfulCall}
use Rattle.search.specs.Laws.{MakesAtMost, Exact, AllExact, Coherent, StaysExact}
use Rattle.search.proofs.Lists.{none-among, count_none, each_at, each_from, each_map}
use Rattle.search.proofs.Lawful.{lawful-root, lawful-child, lawful-length}
use Rattle.search.proofs.Invariant.{sound, sound-parts}

-- The budget

children-steps : {S : Type 0} (m : Store S) (p : List Bool) (us : List Bool) (d : Loaded S) → (put_children m p d us).steps ≡ d.steps
children-steps m p [] d = refl
children-steps m p (u ∷ us) d = children-steps m p us (put_child m p d u) ∙ go (is_left_out d.block p u)
  where
    go : (t : Bool) → (cond t d (with_put m d (child p u))).steps ≡ d.steps
    go true = refl
    go false = refl

explored-steps : {S : Type 0} (m : Store S) (c : Candidate) (d : Loaded S) → (explored m c d).steps ≡ d.steps
explored-steps m c d = whole (eqb c.length d.block.size)
  where
    judge : (t : Bool) → (cond t (in_phase d (Shown c)) (failed d)).steps ≡ d.steps
    judge true = refl
    judge false = refl

    whole : (t : Bool) → (cond t (judged c d) (put_children m c.path d (allowed d.block.kind c.path))).steps ≡ d.steps
    whole true = judge (d.block.accepted (information_bits d.block c.path))
    whole false = children-steps m c.path (allowed d.block.kind c.path) d

step-steps : {S : Type 0} (m : Store S) (d : Loaded S) → (step m d).steps ≤ suc d.steps
step-steps m d = go (m.kept d.store)
  where
    go : (cs : List Candidate) → (step_from m d cs).steps ≤ suc d.steps
    go [] = omega arith
    go (c ∷ others) = let h = explored-steps m c (after_take m d) in omega arith

pub keeps-to-budget : {S : Type 0} (m : Store S) (budget : ℕ) (d : Loaded S) → MakesAtMost m budget budget d
unfolding advanced
keeps-to-budget m zero d = go (halt_at (m.kept d.store) (spent d))
  where
    go : (h : Option Met) → (unless_halted d h (Paused, d)).1.steps ≤ d.steps + 0
    go None = omega arith
    go (Some met) = omega arith
keeps-to-budget m (suc budget) d = go (halt_at (m.kept d.store) (spent d)) (step m d).phase (keeps-to-budget m budget (step m d))
  where
    go : (h : Option Met) (p : Phase) → (advanced m budget (step m d)).1.steps ≤ (step m d).steps + budget → (unless_halted d h (unless_shown (step m d) p (advanced m budget (step m d)))).1.steps ≤ d.steps + suc budget
    go (Some met) p ih = omega arith
    go None Searching ih = let h = step-steps m d in omega arith
    go None (Shown c) ih = let h = step-steps m d in omega arith
    go None Ended ih = let h = step-steps m d in omega arith

-- Exact metrics

abbrev exactly : Block → ℕ → Candidate → Bool
exactly b n c = sound b c && ltb c.serial n

exact-test : (b : Block) (n : ℕ) (c : Candidate) → Exact b n c → exactly b n c ≡ true
exact-test b n c e = and_from (sound b c) (ltb c.serial n) (and_from (lawful b c.path) (eqb c.metric (b.cost c.path) && eqb c.length (length c.path)) e.lawful (and_from (eqb c.metric (b.cost c.path)) (eqb c.length (length c.path)) (eq-eqb c.metric (b.cost c.path) e.metric) (eq-eqb c.length (length c.path) e.length))) (lt-ltb c.serial n e.serial)

test-exact : (b : Block) (n : ℕ) (c : Candidate) → exactly b n c ≡ true → Exact b n c
test-exact b n c e = let (q, k) = and_parts (sound b c) (ltb c.serial n) e in let (l, p, r) = sound-parts b c q in record { lawful = l; metric = p; length = r; serial = ltb-true c.serial n k }

later : (b : Block) (n : ℕ) (c : Candidate) → Exact b n c → Exact b (suc n) c
later b n c e = record { lawful = e.lawful; metric = e.metric; length = e.length; serial = let h = e.serial in omega arith }

pub exact-sieved : (b : Block) (n : ℕ) (at_hand after : List Candidate) (floor floor_after : Option ℕ) → Keeps at_hand floor after floor_after → Each (Exact b n) at_hand → Each (Exact b n) after
exact-sieved b n at_hand after floor floor_after k e =
    let none = count_none (λ c. not (exactly b n c)) at_hand (λ c m. ap not (exact-test b n c (each_at (Exact b n) at_hand e c m))) in
    let h = k.only (λ c. not (exactly b n c)) in
    each_from (Exact b n) after (λ c m. test-exact b n c (none-among (exactly b n) after (omega arith) c m))

module _ {S : Type 0} (m : Store S) (rules : StoreLaws m) where
  pub exact-put : (d : Loaded S) (path : List Bool) → lawful d.block path ≡ true → AllExact m d → AllExact m (with_put m d path)
  exact-put d path l e = exact-sieved d.block (suc d.serial) _ (m.kept (with_put m d path).store) (m.floor d.store) (m.floor (with_put m d path).store) (rules.puts d.store _) (record { lawful = l; metric = refl; length = refl; serial = omega arith }, each_map (Exact d.block d.serial) (Exact d.block (suc d.serial)) (m.kept d.store) (later d.block d.serial) e)

  -- all exact, and so would be the children by these bits
  abbrev Ready : List Bool → Loaded S → List Bool → Type 0
  Ready p d us = AllExact m d × ((u : Bool) → Among u us → lawful d.block (child p u) ≡ true)

  exact-child : (p : List Bool) (d : Loaded S) (u : Bool) (us : List Bool) → Ready p d (u ∷ us) → Ready p (put_child m p d u) us
  exact-child p d u us (e, l) = go (is_left_out d.block p u)
    where
      go : (t : Bool) → Ready p (cond t d (with_put m d (child p u))) us
      go true = (e, λ v k. l v (inr k))
      go false = (exact-put d (child p u) (l u (inl refl)) e, λ v k. l v (inr k))

  exact-children : (p : List Bool) (us : List Bool) (d : Loaded S) → Ready p d us → AllExact m (put_children m p d us)
  exact-children p [] d r = r.0
  exact-children p (u ∷ us) d r = exact-children p us (put_child m p d u) (exact-child p d u us r)

  exact-explored : (c : Candidate) (d : Loaded S) → Exact d.block d.serial c → AllExact m d → AllExact m (explored m c d)
  exact-explored c d x e = whole (eqb c.length d.block.size) refl
    where
      judge : (t : Bool) → AllExact m (cond t (in_phase d (Shown c)) (failed d))
      judge true = e
      judge false = e

      whole : (t : Bool) → eqb c.length d.block.size ≡ t → AllExact m (cond t (judged c d) (put_children m c.path d (allowed d.block.kind c.path)))
      whole true q = judge (d.block.accepted (information_bits d.block c.path))
      whole false q =
          let differs = eqb-false c.length d.block.size q in
          let long = x.length in
          let fits = lawful-length d.block c.path x.lawful in
          exact-children c.path (allowed d.block.kind c.path) d (e, λ u k. lawful-child d.block c.path u x.lawful (omega arith) k)

  -- the first candidate is exact, and so are those that the take leaves
  pub exact-taken : (d : Loaded S) (c : Candidate) (others : List Candidate) → m.kept d.store ≡ c ∷ others → AllExact m d → Exact d.block d.serial c × AllExact m (after_take m d)
  exact-taken d c others q e =
      let all : Each (Exact d.block d.serial) (c ∷ others) = subst (Each (Exact d.block d.serial)) q e in
      (all.0, exact-sieved d.block d.serial others (m.kept (m.taken d.store)) (m.floor d.store) (m.floor (m.taken d.store)) (subst (λ cs. Keeps (behind_first cs) (m.floor d.store) (m.kept (m.taken d.store)) (m.floor (m.taken d.store))) q (rules.takes d.store)) all.1)

  pub exact-step : (d : Loaded S) → AllExact m d → AllExact m (step m d)
  exact-step d e = go (m.kept d.store) refl
    where
      go : (cs : List Candidate) → m.kept d.store ≡ cs → AllExact m (step_from m d cs)
      go [] q = e
      go (c ∷ others) q = let (x, rest) = exact-taken d c others q e in exact-explored c (after_take m d) x rest

  pub exact-advanced : (budget : ℕ) (d : Loaded S) → AllExact m d → AllExact m (advanced m budget d).1
  unfolding advanced
  exact-advanced zero d e = go (halt_at (m.kept d.store) (spent d))
    where
      go : (h : Option Met) → AllExact m (unless_halted d h (Paused, d)).1
      go None = e
      go (Some met) = e
  exact-advanced (suc budget) d e = go (halt_at (m.kept d.store) (spent d)) (step m d).phase (exact-advanced budget (step m d) (exact-step d e))
    where
      go : (h : Option Met) (p : Phase) → AllExact m (advanced m budget (step m d)).1 → AllExact m (unless_halted d h (unless_shown (step m d) p (advanced m budget (step m d)))).1
      go (Some met) p ih = e
      go None Searching ih = ih
      go None (Shown c) ih = exact-step d e
      go None Ended ih = ih

  pub exact-loaded : (s : S) (q : Request) → BlockLaws q.block → AllExact m (loaded m s q)
  exact-loaded s q laws = exact-sieved q.block 1 (root ∷ m.kept (m.emptied s q.capacity)) (m.kept (m.put (m.emptied s q.capacity) root)) (m.floor (m.emptied s q.capacity)) (m.floor (m.put (m.emptied s q.capacity) root)) (rules.puts (m.emptied s q.capacity) root) (record { lawful = lawful-root q.block; metric = sym laws.start; length = refl; serial = omega arith }, subst (Each (Exact q.block 1)) (sym (rules.empty s q.capacity).0) tt)

  exact-called : (d : Decoder S) (c : Call) → LawfulCall c → Coherent m d → Coherent m (called m d c).0
  exact-called d (Load q) laws e = go (load_refusal q) laws
    where
      go : (r : Option Refusal) → (r ≡ None → BlockLaws q.block) → Coherent m (unless_refused d r (reporting m (loaded m (store_of d) q))).0
      go None l = exact-loaded (store_of d) q (l refl)
      go (Some r) l = e
  exact-called (Blank s) (Advance budget scratch) laws e = e
  exact-called (Busy d) (Advance budget scratch) laws e = go d.phase
    where
      granted : (r : Option Refusal) → Coherent m (unless_refused (Busy d) r (advancing m (advanced m budget d))).0
      granted None = exact-advanced budget d e
      granted (Some r) = e

      go : (p : Phase) → Coherent m (in_searching m d p budget scratch).0
      go Searching = granted (advance_refusal d budget scratch)
      go (Shown c) = e
      go Ended = e
  exact-called (Blank s) Strike laws e = e
  exact-called (Busy d) Strike laws e = go d.phase
    where
      go : (p : Phase) → Coherent m (struck m d p).0
      go Searching = e
      go (Shown c) = e
      go Ended = e
  exact-called (Blank s) (Word output) laws e = e
  exact-called (Busy d) (Word output) laws e = go d.phase
    where
      granted : (c : Candidate) (r : Option Refusal) → Coherent m (unless_refused (Busy d) r (Busy d, Payload (shown_payload d c))).0
      granted c None = e
      granted c (Some r) = e

      go : (p : Phase) → Coherent m (wording d p output).0
      go Searching = e
      go (Shown c) = granted c (word_refusal d output)
      go Ended = e
  exact-called (Blank s) Report laws e = e
  exact-called (Busy d) Report laws e = e

  pub stays-exact : StaysExact m
  stays-exact = record { steps = exact-step; calls = exact-called }
