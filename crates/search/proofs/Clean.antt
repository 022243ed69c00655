-- A clean word comes first, and pauses change nothing. Assumes the laws of stores and blocks.
use Rattle.std.proofs.Common.{◌≡◌, ℕ, zero, suc, ◌+◌, ◌<◌, ◌≤◌, Bool, true, false, cond, ◌&&◌, eqb, leb, ◌⊎◌, List, [], ◌∷◌, ◌++◌, length, Some, None, sym, refl, ap, ◌∙◌, subst, inl, inr, suc-add, zero-add, arith, length-append}
use mathlib.Core.Bool.{beq, false≢true}
use Rattle.std.proofs.lemmas.List.{append_assoc, append-nil}
use Rattle.std.proofs.lemmas.Bool.{leb-true, lt-leb, le-leb, ne_eqb, eq-eqb, and_parts, or_from}
use Rattle.search.specs.Lists.{count, Among}
use Rattle.search.specs.Paths.{BlockLaws, is_information, lawful, allowed, child, information_bits, parity_bit}
use Rattle.search.specs.Stores.{Candidate, Store, StoreLaws, CapacityLaws, InOrder, behind_first}
use Rattle.search.specs.Calls.{Request, Phase, Searching, Shown, Ended, Loaded, ShownWord, Paused}
use Rattle.search.specs.Search.{is_left_out, load_refusal, root, loaded, in_phase, after_take, failed, judged, with_put, put_child, put_children, step_from, step, halt_at, halt, spent, unless_halted, unless_shown, advanced, between, within_limits, value_refusal}
use Rattle.base.specs.declared.refusal.Refusal.TheVariants as refusal
use Rattle.search.specs.Laws.{Exact, AllExact}
use Rattle.search.specs.Clean.{Clean, ShowsFree, CleanComesFirst, Pauses, DoAsOne}
use Rattle.search.proofs.Lists.{count-among, each_at}
use Rattle.search.proofs.Prefixes.{is_prefix, prefix-append, choice-once, choice-there}
use Rattle.search.proofs.Lawful.{goes_on, length-child, lawful-child, prefix-costs, admissible-hopeful}
use Rattle.search.proofs.Exact.{exact-put, exact-taken, exact-loaded}

-- Pauses

pub pauses-change-nothing : {S : Type 0} (m : Store S) (first second : ℕ) (d : Loaded S) → Pauses m first d → DoAsOne m first second d
unfolding advanced
pauses-change-nothing m zero second d e = ap (λ n. advanced m n d) (zero-add second) ∙ go (m.kept d.store) (spent d) e
  where
    go : (cs : List Candidate) (t : Bool) → (unless_halted d (halt_at cs t) (Paused, d)).0 ≡ Paused → advanced m second d ≡ advanced m second (unless_halted d (halt_at cs t) (Paused, d)).1
    go [] t q = let z : ◌≡◌ {A = ℕ} 0 1 = cc in absurd (omega arith)
    go (c ∷ others) true q = let z : ◌≡◌ {A = ℕ} 0 1 = cc in absurd (omega arith)
    go (c ∷ others) false q = refl
pauses-change-nothing m (suc first) second d e = ap (λ n. advanced m n d) (suc-add first second) ∙ go (m.kept d.store) (spent d) (step m d).phase (pauses-change-nothing m first second (step m d)) e
  where
    go : (cs : List Candidate) (t : Bool) (p : Phase) → ((advanced m first (step m d)).0 ≡ Paused → advanced m (first + second) (step m d) ≡ advanced m second (advanced m first (step m d)).1) → (unless_halted d (halt_at cs t) (unless_shown (step m d) p (advanced m first (step m d)))).0 ≡ Paused → unless_halted d (halt_at cs t) (unless_shown (step m d) p (advanced m (first + second) (step m d))) ≡ advanced m second (unless_halted d (halt_at cs t) (unless_shown (step m d) p (advanced m first (step m d)))).1
    go [] t p ih q = let z : ◌≡◌ {A = ℕ} 0 1 = cc in absurd (omega arith)
    go (c ∷ others) true p ih q = let z : ◌≡◌ {A = ℕ} 0 1 = cc in absurd (omega arith)
    go (c ∷ others) false Searching ih q = ih q
    go (c ∷ others) false (Shown x) ih q = let z : ◌≡◌ {A = ℕ} 0 1 = cc in absurd (omega arith)
    go (c ∷ others) false Ended ih q = ih q

-- The clean word's path

-- how many candidates cost nothing
abbrev zeros : List Candidate → ℕ
zeros cs = count (λ y. leb y.metric 0) cs

-- a decoder on its way to the clean word, with n steps behind it
record Lane {S : Type 0} (m : Store S) (d : Loaded S) (word : List Bool) (size n : ℕ) : Type 0 where
  laws : BlockLaws d.block
  clean : Clean d.block word
  sized : d.block.size ≡ size
  phase : d.phase ≡ Searching
  failures : d.failures < d.most_failures
  limit : size < d.most_steps
  room : 2 ≤ m.capacity d.store
  exact : AllExact m d
  in_order : InOrder (m.kept d.store)
  steps : d.steps ≡ n

-- the path at hand that costs nothing is the first, and r is left of the word
record Stage {S : Type 0} (m : Store S) (d : Loaded S) (word : List Bool) (size : ℕ) (r : List Bool) : Type 0 where
  first : Candidate
  others : List Candidate
  kept : m.kept d.store ≡ first ∷ others
  split : word ≡ first.path ++ r
  alone : zeros others ≡ 0
  lane : Lane m d word size (length first.path)

-- the one candidate that costs nothing has path q
record Placed (kept : List Candidate) (q : List Bool) : Type 0 where
  one : Candidate
  stands : Among one kept
  path : one.path ≡ q
  alone : zeros kept ≡ 1

-- while children of p are put: the bit u of the word is still to come, or its child is placed
record Putting {S : Type 0} (m : Store S) (d : Loaded S) (word : List Bool) (size n : ℕ) (p : List Bool) (u : Bool) (us : List Bool) : Type 0 where
  lane : Lane m d word size n
  lawful : (v : Bool) → Among v us → lawful d.block (child p v) ≡ true
  once : count (λ v. beq v u) us ≤ 1
  state : ((1 ≤ count (λ v. beq v u) us) × (zeros (m.kept d.store) ≡ 0)) ⊎ ((count (λ v. beq v u) us ≡ 0) × Placed (m.kept d.store) (child p u))

beq-is : (u v : Bool) → beq u v ≡ true → u ≡ v
beq-is true true e = refl
beq-is true false e = absurd (false≢true e)
beq-is false true e = absurd (false≢true e)
beq-is false false e = refl

beq-differs : (u v : Bool) → beq u v ≡ false → u ≡ v → ⊥
beq-differs true true e q = false≢true (sym e)
beq-differs true false e q = false≢true (sym q)
beq-differs false true e q = false≢true q
beq-differs false false e q = false≢true (sym e)

module _ {S : Type 0} (m : Store S) (rules : StoreLaws m) (capacity : CapacityLaws m) where
  lane-put : {d : Loaded S} {word : List Bool} {size n : ℕ} (path : List Bool) → lawful d.block path ≡ true → Lane m d word size n → Lane m (with_put m d path) word size n
  lane-put {d} path l i = record {
    laws = i.laws;
    clean = i.clean;
    sized = i.sized;
    phase = i.phase;
    failures = i.failures;
    limit = i.limit;
    room = subst (λ k. 2 ≤ k) (sym (capacity.put d.store _)) i.room;
    exact = exact-put m rules d path l i.exact;
    in_order = rules.put-in-order d.store _ i.in_order;
    steps = i.steps;
  }

  -- a candidate that alone at hand costs nothing is kept by a put
  placed-after : (s : S) {q : List Bool} (c one : Candidate) → 2 ≤ m.capacity s → InOrder (m.kept s) → Among one (c ∷ m.kept s) → one.metric ≡ 0 → one.path ≡ q → zeros (c ∷ m.kept s) ≡ 1 → Placed (m.kept (m.put s c)) q
  placed-after s c one room order a free path alone =
      let stands = capacity.cheapest s c one room order a (subst (λ k. count (λ y. leb y.metric k) (c ∷ m.kept s) ≡ 1) (sym free) alone) in
      let more = (rules.puts s c).only (λ y. leb y.metric 0) in
      let some = count-among (λ y. leb y.metric 0) one (m.kept (m.put s c)) stands (le-leb one.metric 0 (omega arith)) in
      record { one = one; stands = stands; path = path; alone = omega arith }

  placed-metric : {d : Loaded S} {word : List Bool} {size n : ℕ} {q : List Bool} → Lane m d word size n → d.block.cost q ≡ 0 → (x : Placed (m.kept d.store) q) → x.one.metric ≡ 0
  placed-metric {d} i free x = (each_at (Exact d.block d.serial) (m.kept d.store) i.exact x.one x.stands).metric ∙ ap d.block.cost x.path ∙ free

  -- the placed candidate stands first
  stage_at : {d : Loaded S} {word : List Bool} {size : ℕ} {q r : List Bool} → word ≡ q ++ r → d.block.cost q ≡ 0 → Placed (m.kept d.store) q → Lane m d word size (length q) → Stage m d word size r
  stage_at {d} {word} {size} {q} {r} split free x i = at (m.kept d.store) refl i.in_order x.stands x.alone
    where
      none : x.one.metric ≡ 0
      none = placed-metric i free x

      at : (cs : List Candidate) → m.kept d.store ≡ cs → InOrder cs → Among x.one cs → zeros cs ≡ 1 → Stage m d word size r
      at [] e o a z = absurd a
      at (c ∷ others) e o (inl y) z =
          let path : c.path ≡ q = ap (λ (c : Candidate). c.path) (sym y) ∙ x.path in
          let free : c.metric ≡ 0 = ap (λ (c : Candidate). c.metric) (sym y) ∙ none in
          let k : cond true 1 0 + zeros others ≡ 1 = subst (λ t. cond t 1 0 + zeros others ≡ 1) (le-leb c.metric 0 (omega arith)) z in
          record { first = c; others = others; kept = e; split = split ∙ ap (λ y. y ++ r) (sym path); alone = omega arith; lane = subst (Lane m d word size) (ap length (sym path)) i }
      at (c ∷ others) e o (inr a) z =
          let zero = none in
          let low = each_at (λ y. c.metric ≤ y.metric) others o.0 x.one a in
          let k : cond true 1 0 + zeros others ≡ 1 = subst (λ t. cond t 1 0 + zeros others ≡ 1) (le-leb c.metric 0 (omega arith)) z in
          let some = count-among (λ y. leb y.metric 0) x.one others a (le-leb x.one.metric 0 (omega arith)) in
          absurd (omega arith)

  module _ (word : List Bool) (size : ℕ) (p : List Bool) (u : Bool) (r : List Bool) (split : word ≡ p ++ (u ∷ r)) where
    on-the-way : word ≡ child p u ++ r
    on-the-way = split ∙ sym (append_assoc p (u ∷ []) r)

    child-free : {d : Loaded S} {n : ℕ} → Lane m d word size n → d.block.cost (child p u) ≡ 0
    child-free {d} i =
        let begins : is_prefix (child p u) word ≡ true = subst (λ w. is_prefix (child p u) w ≡ true) (sym on-the-way) (prefix-append (child p u) r) in
        let h = prefix-costs d.block i.laws (child p u) word begins i.clean.admissible.lawful in
        let z = i.clean.free in
        omega arith

    child-hopeful : {d : Loaded S} {n : ℕ} → Lane m d word size n → is_left_out d.block p u ≡ true → ⊥
    child-hopeful {d} i e =
        let bad = (and_parts (is_information (d.block.kind (length p))) (d.block.hopeless (information_bits d.block (child p u))) e).1 in
        false≢true (sym (admissible-hopeful d.block i.laws word i.clean.admissible (child p u) r on-the-way) ∙ bad)

    abbrev bits : List Bool → ℕ
    bits us = count (λ v. beq v u) us

    putting-child : {d : Loaded S} {n : ℕ} (v : Bool) (us : List Bool) → Putting m d word size n p u (v ∷ us) → Putting m (put_child m p d v) word size n p u us
    putting-child {d} {n} v us i = go (is_left_out d.block p v) refl (beq v u) refl
      where
        new : Candidate
        new = record { metric = d.block.cost (child p v); length = length (child p v); serial = d.serial; path = child p v }

        good : lawful d.block (child p v) ≡ true
        good = i.lawful v (inl refl)

        once : (t : Bool) → beq v u ≡ t → cond t 1 0 + bits us ≤ 1
        once t e = subst (λ t. cond t 1 0 + bits us ≤ 1) e i.once

        dear : beq v u ≡ false → 0 < d.block.cost (child p v)
        dear e = i.lane.clean.apart p u r split v (beq-differs v u e) good

        skipped : beq v u ≡ false → ((1 ≤ bits (v ∷ us)) × (zeros (m.kept d.store) ≡ 0)) ⊎ ((bits (v ∷ us) ≡ 0) × Placed (m.kept d.store) (child p u)) → ((1 ≤ bits us) × (zeros (m.kept d.store) ≡ 0)) ⊎ ((bits us ≡ 0) × Placed (m.kept d.store) (child p u))
        skipped e (inl (h, z)) = inl (let k : 1 ≤ cond false 1 0 + bits us = subst (λ t. 1 ≤ cond t 1 0 + bits us) e h in omega arith, z)
        skipped e (inr (h, x)) = inr (let k : cond false 1 0 + bits us ≡ 0 = subst (λ t. cond t 1 0 + bits us ≡ 0) e h in omega arith, x)

        another : beq v u ≡ false → ((1 ≤ bits us) × (zeros (m.kept d.store) ≡ 0)) ⊎ ((bits us ≡ 0) × Placed (m.kept d.store) (child p u)) → ((1 ≤ bits us) × (zeros (m.kept (m.put d.store new)) ≡ 0)) ⊎ ((bits us ≡ 0) × Placed (m.kept (m.put d.store new)) (child p u))
        another e (inl (h, z)) =
            let k = (rules.puts d.store new).only (λ y. leb y.metric 0) in
            let more : zeros (new ∷ m.kept d.store) ≡ 0 = subst (λ t. cond t 1 0 + zeros (m.kept d.store) ≡ 0) (sym (lt-leb (d.block.cost (child p v)) 0 (dear e))) (omega arith) in
            inl (h, omega arith)
        another e (inr (h, x)) =
            let z = x.alone in
            let more : zeros (new ∷ m.kept d.store) ≡ 1 = subst (λ t. cond t 1 0 + zeros (m.kept d.store) ≡ 1) (sym (lt-leb (d.block.cost (child p v)) 0 (dear e))) (omega arith) in
            inr (h, placed-after d.store new x.one i.lane.room i.lane.in_order (inr x.stands) (placed-metric i.lane (child-free i.lane) x) x.path more)

        itself : v ≡ u → bits us ≡ 0 → ((1 ≤ bits (v ∷ us)) × (zeros (m.kept d.store) ≡ 0)) ⊎ ((bits (v ∷ us) ≡ 0) × Placed (m.kept d.store) (child p u)) → cond true 1 0 + bits us ≡ bits (v ∷ us) → Placed (m.kept (m.put d.store new)) (child p u)
        itself e none (inl (h, z)) q =
            let free : new.metric ≡ 0 = ap (λ x. d.block.cost (child p x)) e ∙ child-free i.lane in
            let more : zeros (new ∷ m.kept d.store) ≡ 1 = subst (λ t. cond t 1 0 + zeros (m.kept d.store) ≡ 1) (sym (le-leb new.metric 0 (omega arith))) (omega arith) in
            placed-after d.store new new i.lane.room i.lane.in_order (inl refl) free (ap (child p) e) more
        itself e none (inr (h, x)) q = absurd (omega arith)

        go : (t : Bool) → is_left_out d.block p v ≡ t → (s : Bool) → beq v u ≡ s → Putting m (cond t d (with_put m d (child p v))) word size n p u us
        go true l true e = absurd (child-hopeful i.lane (subst (λ x. is_left_out d.block p x ≡ true) (beq-is v u e) l))
        go true l false e = record { lane = i.lane; lawful = λ x a. i.lawful x (inr a); once = let k = once false e in omega arith; state = skipped e i.state }
        go false l true e = let k = once true e in let none : bits us ≡ 0 = omega arith in record { lane = lane-put (child p v) good i.lane; lawful = λ x a. i.lawful x (inr a); once = omega arith; state = inr (none, itself (beq-is v u e) none i.state (ap (λ t. cond t 1 0 + bits us) (sym e))) }
        go false l false e = record { lane = lane-put (child p v) good i.lane; lawful = λ x a. i.lawful x (inr a); once = let k = once false e in omega arith; state = another e (skipped e i.state) }

    putting-children : {n : ℕ} (us : List Bool) (d : Loaded S) → Putting m d word size n p u us → Putting m (put_children m p d us) word size n p u []
    putting-children [] d i = i
    putting-children (v ∷ us) d i = putting-children us (put_child m p d v) (putting-child v us i)

    -- when all are put, the word's child stands first
    next-stage : {d : Loaded S} → Putting m d word size (suc (length p)) p u [] → Stage m d word size r
    next-stage {d} i = done i.state
      where
        done : ((1 ≤ bits []) × (zeros (m.kept d.store) ≡ 0)) ⊎ ((bits [] ≡ 0) × Placed (m.kept d.store) (child p u)) → Stage m d word size r
        done (inl (h, z)) = absurd (omega arith)
        done (inr (h, x)) = stage_at on-the-way (child-free i.lane) x (subst (Lane m d word size) (sym (length-child p u)) i.lane)

  -- One step along the word

  module _ {d : Loaded S} {word : List Bool} {size : ℕ} where
    mine : {r : List Bool} (i : Stage m d word size r) → Exact d.block d.serial i.first
    mine i = (exact-taken m rules d i.first i.others i.kept i.lane.exact).0

    whole_length : {r : List Bool} (i : Stage m d word size r) → length i.first.path + length r ≡ size
    whole_length {r} i = sym (length-append i.first.path r) ∙ ap length (sym i.split) ∙ i.lane.clean.admissible.whole ∙ i.lane.sized

    lane-taken : {r : List Bool} (i : Stage m d word size r) → Lane m (after_take m d) word size (suc (length i.first.path))
    lane-taken i = record {
      laws = i.lane.laws;
      clean = i.lane.clean;
      sized = i.lane.sized;
      phase = i.lane.phase;
      failures = i.lane.failures;
      limit = i.lane.limit;
      room = subst (λ k. 2 ≤ k) (sym (capacity.taken d.store)) i.lane.room;
      exact = (exact-taken m rules d i.first i.others i.kept i.lane.exact).1;
      in_order = rules.taken-in-order d.store i.lane.in_order;
      steps = ap suc i.lane.steps;
    }

    not-halted : {r : List Bool} → Stage m d word size r → halt m d ≡ None
    not-halted {r} i =
        let long = whole_length i in
        let taken = i.lane.steps in
        let limit = i.lane.limit in
        let going : spent d ≡ false = or_from (leb d.most_failures d.failures) (leb d.most_steps d.steps) (lt-leb d.most_failures d.failures i.lane.failures) (lt-leb d.most_steps d.steps (omega arith)) in
        subst (λ cs. halt_at cs (spent d) ≡ None) (sym i.kept) (subst (λ t. halt_at (i.first ∷ i.others) t ≡ None) (sym going) refl)

    stage-step : {u : Bool} {r : List Bool} → Stage m d word size (u ∷ r) → Stage m (step m d) word size r
    stage-step {u} {r} i = subst (λ cs. Stage m (step_from m d cs) word size r) (sym i.kept) (subst (λ t. Stage m (cond t (judged c (after_take m d)) (put_children m p (after_take m d) (allowed d.block.kind p))) word size r) (sym short) (next-stage word size p u r i.split (putting-children word size p u r i.split (allowed d.block.kind p) (after_take m d) start)))
      where
        c : Candidate
        c = i.first

        p : List Bool
        p = i.first.path

        part : length p < d.block.size
        part = let long = whole_length i in let sized = i.lane.sized in omega arith

        short : eqb c.length d.block.size ≡ false
        short = ne_eqb c.length d.block.size (λ e. let long = (mine i).length in let k = part in omega arith)

        start : Putting m (after_take m d) word size (suc (length p)) p u (allowed d.block.kind p)
        start = record {
          lane = lane-taken i;
          lawful = λ v a. lawful-child d.block p v (mine i).lawful part a;
          once = choice-once (d.block.kind (length p)) (parity_bit d.block.kind p (length p)) u;
          state = inl (choice-there (d.block.kind (length p)) (parity_bit d.block.kind p (length p)) u (goes_on d.block p u r (subst (λ w. lawful d.block w ≡ true) i.split i.lane.clean.admissible.lawful)), let k = subst (λ cs. zeros (m.kept (m.taken d.store)) ≤ zeros (behind_first cs)) i.kept ((rules.takes d.store).only (λ y. leb y.metric 0)) in let z = i.alone in omega arith);
        }

    at-the-word : (i : Stage m d word size []) → i.first.path ≡ word
    at-the-word i = sym (i.split ∙ append-nil i.first.path)

    last_step : (i : Stage m d word size []) → step m d ≡ in_phase (after_take m d) (Shown i.first)
    last_step i =
        let c = i.first in
        let long = (mine i).length in
        let all = whole_length i in
        let sized = i.lane.sized in
        let whole : eqb c.length d.block.size ≡ true = eq-eqb c.length d.block.size (omega arith) in
        let good : d.block.accepted (information_bits d.block c.path) ≡ true = subst (λ w. d.block.accepted (information_bits d.block w) ≡ true) (sym (at-the-word i)) i.lane.clean.admissible.accepted in
        ap (step_from m d) i.kept ∙ ap (λ t. cond t (judged c (after_take m d)) (put_children m c.path (after_take m d) (allowed d.block.kind c.path))) whole ∙ ap (λ t. cond t (in_phase (after_take m d) (Shown c)) (failed (after_take m d))) good

    shows-free : (i : Stage m d word size []) → ShowsFree m word (suc size) (ShownWord i.first.path, in_phase (after_take m d) (Shown i.first))
    shows-free i = record {
      met = ap ShownWord (at-the-word i);
      metric = ap Some ((mine i).metric ∙ ap d.block.cost (at-the-word i) ∙ i.lane.clean.free);
      steps = let all = whole_length i in let taken = i.lane.steps in omega arith;
    }

  clean_run : {word : List Bool} {size : ℕ} (budget : ℕ) (d : Loaded S) (r : List Bool) → Stage m d word size r → length r < budget → ShowsFree m word (suc size) (advanced m budget d)
  unfolding advanced
  clean_run zero d r i h = absurd (omega arith)
  clean_run {word} {size} (suc budget) d [] i h = subst (λ e. ShowsFree m word (suc size) (unless_halted d e (unless_shown (step m d) (step m d).phase (advanced m budget (step m d))))) (sym (not-halted i)) (subst (λ x. ShowsFree m word (suc size) (unless_shown x x.phase (advanced m budget (step m d)))) (sym (last_step i)) (shows-free i))
  clean_run {word} {size} (suc budget) d (u ∷ r) i h =
      let j = stage-step i in
      let end = clean_run budget (step m d) r j (omega arith) in
      subst (λ e. ShowsFree m word (suc size) (unless_halted d e (unless_shown (step m d) (step m d).phase (advanced m budget (step m d))))) (sym (not-halted i)) (subst (λ x. ShowsFree m word (suc size) (unless_shown (step m d) x (advanced m budget (step m d)))) (sym j.lane.phase) end)

  -- From the load on

  granted-failures : (q : Request) → load_refusal q ≡ None → 1 ≤ q.failures
  granted-failures q e = go (q.fits && within_limits q) refl
    where
      go : (t : Bool) → (q.fits && within_limits q) ≡ t → 1 ≤ q.failures
      go true h =
          let limits = (and_parts q.fits (within_limits q) h).1 in
          let rest = (and_parts (between 2 128 q.capacity) (between 1 64 q.failures && between 1 16777216 q.steps) limits).1 in
          let failures = (and_parts (between 1 64 q.failures) (between 1 16777216 q.steps) rest).0 in
          leb-true 1 q.failures (and_parts (leb 1 q.failures) (leb q.failures 64) failures).0
      go false h = let k = ap (λ t. cond t (value_refusal q.bad_value) (Some (refusal.Block 0))) (sym h) ∙ e in let z : ◌≡◌ {A = ℕ} 0 1 = cc in absurd (omega arith)

  first-stage : (s : S) (q : Request) (word : List Bool) → load_refusal q ≡ None → BlockLaws q.block → Clean q.block word → q.block.size < q.steps → Stage m (loaded m s q) word q.block.size word
  first-stage s q word granted laws clean permitted = stage_at refl laws.start placed (record {
    laws = laws;
    clean = clean;
    sized = refl;
    phase = refl;
    failures = granted-failures q granted;
    limit = permitted;
    room = subst (λ k. 2 ≤ k) (sym (capacity.put e root)) room;
    exact = exact-loaded m rules s q laws;
    in_order = rules.put-in-order e root order;
    steps = refl;
  })
    where
      e : S
      e = m.emptied s q.capacity

      room : 2 ≤ m.capacity e
      room = subst (λ k. 2 ≤ k) (sym (capacity.emptied s q.capacity)) (omega arith)

      order : InOrder (m.kept e)
      order = subst InOrder (sym (rules.empty s q.capacity).0) tt

      placed : Placed (m.kept (m.put e root)) []
      placed = placed-after e root root room order (inl refl) refl refl (subst (λ cs. zeros (root ∷ cs) ≡ 1) (sym (rules.empty s q.capacity).0) refl)

  pub clean-comes-first : CleanComesFirst m
  clean-comes-first s q word granted laws clean permitted budget enough = let whole = clean.admissible.whole in clean_run budget (loaded m s q) word (first-stage s q word granted laws clean permitted) (omega arith)
