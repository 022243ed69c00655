-- The invariant of a loaded decoder with what it has shown, kept by every step and every advance. Assumes a store's laws.
use Rattle.std.proofs.Common.{◌≡◌, ℕ, zero, suc, ◌+◌, ◌<◌, ◌≤◌, Bool, true, false, cond, ◌&&◌, eqb, ltb, leb, ◌⊎◌, List, [], ◌∷◌, length, Some, None, Option, sym, refl, ap, ◌∙◌, subst, inl, inr, arith}
use mathlib.Core.Bool.{false≢true}
use Rattle.std.proofs.lemmas.Bool.{ltb-false, eqb-true, eqb-false, le-leb, and_parts, and_from}
use Rattle.search.specs.Lists.{count, Among, Each}
use Rattle.search.specs.Paths.{frozen, Block, BlockLaws, Admissible, is_information, lawful, allowed, child, information_bits, parity_bit, lawful_within}
use Rattle.search.specs.Stores.{Candidate, Store, StoreLaws, Reaches, InOrder, Keeps, behind_first}
use Rattle.search.specs.Calls.{Phase, Searching, Shown, Ended, Loaded, Figures, Met, ShownWord, NoneLeft, GivenUp, Paused}
use Rattle.search.specs.Search.{report_of, is_left_out, in_phase, after_take, failed, judged, with_put, put_child, put_children, step_from, step, halt_at, spent, unless_halted, unless_shown, advanced}
use Rattle.search.specs.Records.{Showing, words_of}
use Rattle.search.specs.Promise.{EachShown, NotBelow, Cheapest, Faithful, FewSteps}
use Rattle.search.proofs.Lists.{count-among, each_from, each_map, none-among, among-count}
use Rattle.search.proofs.Prefixes.{is_prefix, same, same_refl, same-is, times, children-once}
use Rattle.search.proofs.Counting.{Within, distinct-within, each-times}
use Rattle.search.proofs.Lawful.{lawful-length, lawful-child, child-or-self, whole-self, admissible-hopeful}
use Rattle.search.proofs.Invariant.{sound, sound-parts, begun, begun-costs, Explored, sieved, taken-first, put_first, left_out, at_rest}

-- all that is promised of a shown word
pub record ShownWell (b : Block) (s : Showing) (earlier : List Showing) : Type 0 where
  pub cheapest : Cheapest b s earlier
  pub faithful : Faithful b s earlier
  pub steps : FewSteps b s earlier

-- Taken whole accepted paths were shown, shown words were taken, and each was shown well.
pub record Told (b : Block) (taken : List (List Bool)) (showings : List Showing) : Type 0 where
  pub taken-shown : (w : List Bool) → 1 ≤ times w taken → Admissible b w → Among w (words_of showings)
  pub shown-taken : (w : List Bool) → Among w (words_of showings) → 1 ≤ times w taken
  pub well : EachShown (ShownWell b) showings

pub record Sound {S : Type 0} (m : Store S) (d : Loaded S) (showings : List Showing) (parent bits : List Bool) : Type 0 where
  pub laws : BlockLaws d.block
  pub taken : List (List Bool)
  pub level : ℕ
  pub in_order : InOrder (m.kept d.store)
  pub explored : Explored d.block (m.kept d.store) (m.floor d.store) taken level parent bits
  pub told : Told d.block taken showings
  pub steps : d.steps ≡ length taken

one_more : (w v : List Bool) (ws : List (List Bool)) → 1 ≤ times w (v ∷ ws) → (w ≡ v) ⊎ (1 ≤ times w ws)
one_more w v ws h = go (same w v) refl
  where
    go : (t : Bool) → same w v ≡ t → (w ≡ v) ⊎ (1 ≤ times w ws)
    go true e = inl (same-is w v e)
    go false e = let k : 1 ≤ cond false 1 0 + times w ws = subst (λ t. 1 ≤ cond t 1 0 + times w ws) e h in inr (omega arith)

-- a path that is no admissible word is taken
told-passed : {b : Block} {taken : List (List Bool)} {showings : List Showing} (p : List Bool) → (Admissible b p → ⊥) → Told b taken showings → Told b (p ∷ taken) showings
told-passed {b} {taken} {showings} p bad i = record {
  taken-shown = λ w h a. elim (one_more w p taken h) [ inl e ↦ absurd (bad (subst (Admissible b) e a)) | inr k ↦ i.taken-shown w k a ];
  shown-taken = λ w m. let h = i.shown-taken w m in omega arith;
  well = i.well;
}

-- a word is taken and shown
told-shown : {b : Block} {taken : List (List Bool)} {showings : List Showing} (s : Showing) → ShownWell b s showings → Told b taken showings → Told b (s.word ∷ taken) (s ∷ showings)
told-shown {b} {taken} {showings} s good i = record {
  taken-shown = λ w h a. elim (one_more w s.word taken h) [ inl e ↦ inl e | inr k ↦ inr (i.taken-shown w k a) ];
  shown-taken = again;
  well = (good, i.well);
}
  where
    again : (w : List Bool) → Among w (words_of (s ∷ showings)) → 1 ≤ times w (s.word ∷ taken)
    again w (inl e) = let k : same w s.word ≡ true = subst (λ x. same x s.word ≡ true) (sym e) (same_refl s.word) in subst (λ t. 1 ≤ cond t 1 0 + times w taken) (sym k) (omega arith)
    again w (inr m) = let h = i.shown-taken w m in omega arith

-- of a decoder d that goes on with the block and the phase of another
pub record GoesOn {S : Type 0} (m : Store S) (from d : Loaded S) (showings : List Showing) (parent bits : List Bool) : Type 0 where
  pub sound : Sound m d showings parent bits
  pub phase : d.phase ≡ from.phase
  pub block : d.block ≡ from.block

-- what was shown, with what an advance met
abbrev pub added : Met → Figures → List Showing → List Showing
added (ShownWord w) r showings = record { word = w; report = r } ∷ showings
added NoneLeft r showings = showings
added GivenUp r showings = showings
added Paused r showings = showings

abbrev pub Ends : {S : Type 0} → Store S → Loaded S → Met × Loaded S → List Showing → Type 0
Ends m d end showings = Sound m end.1 (added end.0 (report_of m end.1) showings) [] [] × (end.1.block ≡ d.block)

-- A word that has just been taken, shown with the report that follows

among-words : (s : Showing) (showings : List Showing) → Among s showings → Among s.word (words_of showings)
among-words s [] i = absurd i
among-words s (x ∷ xs) (inl e) = inl (ap (λ (y : Showing). y.word) e)
among-words s (x ∷ xs) (inr i) = inr (among-words s xs i)

pub some-part : (a k : ℕ) → 1 ≤ a + (k + 0) → (1 ≤ a) ⊎ (1 ≤ k)
some-part zero k h = inr (omega arith)
some-part (suc a) k h = inl (omega arith)

not-below : (a n : ℕ) (floor : Option ℕ) → NotBelow floor a → Reaches n floor → a ≤ n
not-below a n None h r = absurd r
not-below a n (Some f) h r = omega arith

above-level : (c : Candidate) (cs : List Candidate) (level : ℕ) → count (λ d. ltb d.metric level) cs ≡ 0 → Among c cs → level ≤ c.metric
above-level c cs level none a = go (ltb c.metric level) refl
  where
    go : (t : Bool) → ltb c.metric level ≡ t → level ≤ c.metric
    go true e = let h = count-among (λ d. ltb d.metric level) c cs a e in absurd (omega arith)
    go false e = ltb-false c.metric level e

module _ {b : Block} {kept : List Candidate} {floor : Option ℕ} {taken : List (List Bool)} {word : List Bool} {showings : List Showing} (laws : BlockLaws b) (x : Explored b kept floor (word ∷ taken) (b.cost word) word []) (told : Told b taken showings) where
  taken-costs : (w : List Bool) → 1 ≤ times w (word ∷ taken) → b.cost w ≤ b.cost word
  taken-costs w h = (each-times (λ w. (lawful b w ≡ true) × (b.cost w ≤ b.cost word)) w (word ∷ taken) x.past h).1

  earlier-cheaper : Each (λ e. b.cost e.word ≤ b.cost word) showings
  earlier-cheaper = each_from (λ e. b.cost e.word ≤ b.cost word) showings (λ e a. let h = told.shown-taken e.word (among-words e showings a) in taken-costs e.word (omega arith))

  not-again : Among word (words_of showings) → ⊥
  not-again a = let h = told.shown-taken word a in let k = subst (λ t. (cond t 1 0 + times word taken) + (begun word kept + 0) ≤ 1) (same_refl word) (x.once word) in omega arith

  none-cheaper : NotBelow floor (b.cost word) → (other : List Bool) → Admissible b other → (other ≡ word → ⊥) → (Among other (words_of showings) → ⊥) → b.cost word ≤ b.cost other
  none-cheaper low other a differs unshown = go (x.covered other a.lawful (admissible-hopeful b laws other a))
    where
      found : (1 ≤ times other (word ∷ taken)) ⊎ (1 ≤ begun other kept) → b.cost word ≤ b.cost other
      found (inl h) = elim (one_more other word taken h) [ inl e ↦ absurd (differs e) | inr k ↦ absurd (unshown (told.taken-shown other k a)) ]
      found (inr h) = let (c, i, p) = among-count (λ d. is_prefix d.path other) kept h in let l = above-level c kept (b.cost word) x.above i in let r = begun-costs b laws kept x.sound other a.lawful c i p in omega arith

      go : (1 ≤ times other (word ∷ taken) + (begun other kept + 0)) ⊎ Reaches (b.cost other) floor → b.cost word ≤ b.cost other
      go (inl h) = found (some-part (times other (word ∷ taken)) (begun other kept) h)
      go (inr r) = not-below (b.cost word) (b.cost other) floor low r

  few-steps : length (word ∷ taken) ≤ lawful_within b (b.cost word)
  few-steps = distinct-within b.size within (word ∷ taken) (λ w. let h = x.once w in omega arith) (each_map (λ w. (lawful b w ≡ true) × (b.cost w ≤ b.cost word)) (Within within b.size) (word ∷ taken) (λ w h. (and_from (lawful b w) (leb (b.cost w) (b.cost word)) h.0 (le-leb (b.cost w) (b.cost word) h.1), lawful-length b w h.0)) x.past)
    where
      within : List Bool → Bool
      within path = lawful b path && leb (b.cost path) (b.cost word)

module _ {S : Type 0} (m : Store S) (rules : StoreLaws m) where
  -- Putting the children

  sound-put : {d : Loaded S} {showings : List Showing} {parent bits : List Bool} {u : Bool} → Sound m d showings parent (u ∷ bits) → Sound m (with_put m d (child parent u)) showings parent bits
  sound-put {d} {showings} {parent} {bits} {u} i = record {
    laws = i.laws;
    taken = i.taken;
    level = i.level;
    in_order = rules.put-in-order d.store _ i.in_order;
    explored = sieved i.laws (put_first d.serial i.explored) (rules.puts d.store _);
    told = i.told;
    steps = i.steps;
  }

  sound-left-out : {d : Loaded S} {showings : List Showing} {parent bits : List Bool} {u : Bool} → is_left_out d.block parent u ≡ true → Sound m d showings parent (u ∷ bits) → Sound m d showings parent bits
  sound-left-out {d} {showings} {parent} {bits} {u} e i = record {
    laws = i.laws;
    taken = i.taken;
    level = i.level;
    in_order = i.in_order;
    explored = left_out (and_parts (is_information (d.block.kind (length parent))) (d.block.hopeless (information_bits d.block (child parent u))) e).1 i.explored;
    told = i.told;
    steps = i.steps;
  }

  sound-child : {from d : Loaded S} {showings : List Showing} {parent bits : List Bool} (u : Bool) → GoesOn m from d showings parent (u ∷ bits) → GoesOn m from (put_child m parent d u) showings parent bits
  sound-child {from} {d} {showings} {parent} {bits} u i = go (is_left_out d.block parent u) refl
    where
      go : (t : Bool) → is_left_out d.block parent u ≡ t → GoesOn m from (cond t d (with_put m d (child parent u))) showings parent bits
      go true e = record { sound = sound-left-out e i.sound; phase = i.phase; block = i.block }
      go false e = record { sound = sound-put i.sound; phase = i.phase; block = i.block }

  sound-children : {from : Loaded S} (d : Loaded S) {showings : List Showing} {parent : List Bool} (bits : List Bool) → GoesOn m from d showings parent bits → GoesOn m from (put_children m parent d bits) showings parent []
  sound-children d [] i = i
  sound-children d {parent = parent} (u ∷ bits) i = sound-children (put_child m parent d u) bits (sound-child u i)

  rested : {d : Loaded S} {showings : List Showing} (parent : List Bool) → Sound m d showings parent [] → Sound m d showings [] []
  rested parent i = record { laws = i.laws; taken = i.taken; level = i.level; in_order = i.in_order; explored = at_rest parent [] i.explored; told = i.told; steps = i.steps }

  -- One step from a decoder that keeps candidate c first

  module _ (d : Loaded S) {showings : List Showing} (c : Candidate) (others : List Candidate) (e : m.kept d.store ≡ c ∷ others) (i : Sound m d showings [] []) where
    firsts : Explored d.block (c ∷ others) (m.floor d.store) i.taken i.level [] []
    firsts = subst (λ cs. Explored d.block cs (m.floor d.store) i.taken i.level [] []) e i.explored

    ordered : InOrder (c ∷ others)
    ordered = subst InOrder e i.in_order

    mine : (lawful d.block c.path ≡ true) × (c.metric ≡ d.block.cost c.path) × (c.length ≡ length c.path)
    mine = sound-parts d.block c (none-among (sound d.block) (c ∷ others) firsts.sound c (inl refl))

    -- what the store keeps after the take
    taking : (bits : List Bool) → Explored d.block others (m.floor d.store) (c.path ∷ i.taken) c.metric c.path bits → Explored d.block (m.kept (m.taken d.store)) (m.floor (m.taken d.store)) (c.path ∷ i.taken) c.metric c.path bits
    taking bits x = sieved i.laws x (subst (λ cs. Keeps (behind_first cs) (m.floor d.store) (m.kept (m.taken d.store)) (m.floor (m.taken d.store))) e (rules.takes d.store))

    whole-taken : length c.path ≡ d.block.size → Explored d.block (m.kept (m.taken d.store)) (m.floor (m.taken d.store)) (c.path ∷ i.taken) c.metric c.path []
    whole-taken whole = taking [] (taken-first [] i.laws firsts ordered (λ w. let h = children-once frozen false c.path w in omega arith) (λ w l p. subst (λ t. 1 ≤ 0 + cond t 1 0) (sym (whole-self d.block c.path w l whole p)) (omega arith)) (λ u a. absurd a))

    part-taken : length c.path < d.block.size → Explored d.block (m.kept (m.taken d.store)) (m.floor (m.taken d.store)) (c.path ∷ i.taken) c.metric c.path (allowed d.block.kind c.path)
    part-taken part = taking (allowed d.block.kind c.path) (taken-first (allowed d.block.kind c.path) i.laws firsts ordered (λ w. children-once (d.block.kind (length c.path)) (parity_bit d.block.kind c.path (length c.path)) c.path w) (λ w l p. child-or-self d.block c.path w l p) (λ u a. (lawful-child d.block c.path u mine.0 part a, let h = i.laws.rises c.path u part in let q = mine.1 in omega arith)))

    -- with a told record, the decoder after the take
    sound-taken : {shown : List Showing} (bits : List Bool) → Explored d.block (m.kept (m.taken d.store)) (m.floor (m.taken d.store)) (c.path ∷ i.taken) c.metric c.path bits → Told d.block (c.path ∷ i.taken) shown → Sound m (after_take m d) shown c.path bits
    sound-taken bits x told = record {
      laws = i.laws;
      taken = c.path ∷ i.taken;
      level = c.metric;
      in_order = rules.taken-in-order d.store i.in_order;
      explored = x;
      told = told;
      steps = ap suc i.steps;
    }

    shown-well : length c.path ≡ d.block.size → d.block.accepted (information_bits d.block c.path) ≡ true → ShownWell d.block (record { word = c.path; report = report_of m (in_phase (after_take m d) (Shown c)) }) showings
    shown-well whole accepted = record {
      faithful = record {
        admissible = record { whole = whole; lawful = mine.0; accepted = accepted };
        metric = ap Some mine.1;
        in_order = earlier-cheaper i.laws x i.told;
        once = not-again i.laws x i.told;
      };
      cheapest = none-cheaper i.laws x i.told;
      steps = let h = few-steps i.laws x i.told in let k = i.steps in omega arith;
    }
      where
        x : Explored d.block (m.kept (m.taken d.store)) (m.floor (m.taken d.store)) (c.path ∷ i.taken) (d.block.cost c.path) c.path []
        x = subst (λ n. Explored d.block (m.kept (m.taken d.store)) (m.floor (m.taken d.store)) (c.path ∷ i.taken) n c.path []) mine.1 (whole-taken whole)

  pub rephased : {d : Loaded S} {showings : List Showing} {parent bits : List Bool} (phase : Phase) → Sound m d showings parent bits → Sound m (in_phase d phase) showings parent bits
  rephased phase i = record { laws = i.laws; taken = i.taken; level = i.level; in_order = i.in_order; explored = i.explored; told = i.told; steps = i.steps }

  failing : {d : Loaded S} {showings : List Showing} {parent bits : List Bool} → Sound m d showings parent bits → Sound m (failed d) showings parent bits
  failing i = record { laws = i.laws; taken = i.taken; level = i.level; in_order = i.in_order; explored = i.explored; told = i.told; steps = i.steps }

  -- r shows a word of d's block
  abbrev Shows : Loaded S → Loaded S → List Showing → Type 0
  Shows d r showings = (c : Candidate) × (r.phase ≡ Shown c) × (r.block ≡ d.block) × Sound m r (record { word = c.path; report = report_of m r } ∷ showings) [] []

  abbrev Stepped : Loaded S → Loaded S → List Showing → Type 0
  Stepped d r showings = GoesOn m d r showings [] [] ⊎ Shows d r showings

  judging : (d : Loaded S) {showings : List Showing} (c : Candidate) (others : List Candidate) → m.kept d.store ≡ c ∷ others → Sound m d showings [] [] → length c.path ≡ d.block.size → Stepped d (judged c (after_take m d)) showings
  judging d {showings} c others e i whole = go (d.block.accepted (information_bits d.block c.path)) refl
    where
      go : (t : Bool) → d.block.accepted (information_bits d.block c.path) ≡ t → Stepped d (cond t (in_phase (after_take m d) (Shown c)) (failed (after_take m d))) showings
      go true a = inr (c, refl, refl, rested c.path (rephased (Shown c) (sound-taken d c others e i [] (whole-taken d c others e i whole) (told-shown (record { word = c.path; report = report_of m (in_phase (after_take m d) (Shown c)) }) (shown-well d c others e i whole a) i.told))))
      go false a = inl (record { sound = rested c.path (failing (sound-taken d c others e i [] (whole-taken d c others e i whole) (told-passed c.path (λ good. false≢true (sym a ∙ good.accepted)) i.told))); phase = refl; block = refl })

  stepping : (d : Loaded S) {showings : List Showing} → Sound m d showings [] [] → (kept : List Candidate) → m.kept d.store ≡ kept → Stepped d (step_from m d kept) showings
  stepping d i [] e = inl (record { sound = i; phase = refl; block = refl })
  stepping d {showings} i (c ∷ others) e = go (eqb c.length d.block.size) refl
    where
      long : c.length ≡ length c.path
      long = (mine d c others e i).2

      go : (t : Bool) → eqb c.length d.block.size ≡ t → Stepped d (cond t (judged c (after_take m d)) (put_children m c.path (after_take m d) (allowed d.block.kind c.path))) showings
      go true q = judging d c others e i (sym long ∙ eqb-true c.length d.block.size q)
      go false q =
          let differs = eqb-false c.length d.block.size q in
          let l = long in
          let fits = lawful-length d.block c.path (mine d c others e i).0 in
          let part : length c.path < d.block.size = omega arith in
          let told = told-passed c.path (λ good. differs (long ∙ good.whole)) i.told in
          let start : GoesOn m d (after_take m d) showings c.path (allowed d.block.kind c.path) = record { sound = sound-taken d c others e i (allowed d.block.kind c.path) (part-taken d c others e i part) told; phase = refl; block = refl } in
          let g = sound-children (after_take m d) (allowed d.block.kind c.path) start in
          inl (record { sound = rested c.path g.sound; phase = g.phase; block = g.block })

  -- An advance

  halting : (d : Loaded S) {showings : List Showing} (onward : Met × Loaded S) → Sound m d showings [] [] → (kept : List Candidate) (t : Bool) → Ends m d onward showings → Ends m d (unless_halted d (halt_at kept t) onward) showings
  halting d onward i [] t end = (rephased Ended i, refl)
  halting d onward i (c ∷ others) true end = (rephased Ended i, refl)
  halting d onward i (c ∷ others) false end = end

  pub advancing-sound : (budget : ℕ) (d : Loaded S) {showings : List Showing} → d.phase ≡ Searching → Sound m d showings [] [] → Ends m d (advanced m budget d) showings
  unfolding advanced
  advancing-sound zero d q i = halting d (Paused, d) i (m.kept d.store) (spent d) (i, refl)
  advancing-sound (suc budget) d {showings} q i = halting d (unless_shown (step m d) (step m d).phase (advanced m budget (step m d))) i (m.kept d.store) (spent d) (after (stepping d i (m.kept d.store) refl) (λ p s. advancing-sound budget (step m d) p s))
    where
      Next : Type 0
      Next = (step m d).phase ≡ Searching → Sound m (step m d) showings [] [] → Ends m (step m d) (advanced m budget (step m d)) showings

      after : Stepped d (step m d) showings → Next → Ends m d (unless_shown (step m d) (step m d).phase (advanced m budget (step m d))) showings
      after (inl g) next = let p : (step m d).phase ≡ Searching = g.phase ∙ q in let end = next p g.sound in subst (λ ph. Ends m d (unless_shown (step m d) ph (advanced m budget (step m d))) showings) (sym p) (end.0, end.1 ∙ g.block)
      after (inr (c, p, k, s)) next = subst (λ ph. Ends m d (unless_shown (step m d) ph (advanced m budget (step m d))) showings) (sym p) (s, k)
