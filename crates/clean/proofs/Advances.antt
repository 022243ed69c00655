-- Advances one after the other, and a clean word as the first that they show. Assumes the laws of stores and blocks.
use Rattle.std.proofs.Common.{◌≡◌, ℕ, zero, suc, ◌+◌, ◌-◌, ◌*◌, ◌<◌, ◌≤◌, Bool, true, false, cond, ◌&&◌, eqb, leb, ◌⊎◌, List, [], ◌∷◌, map, ℤ, Some, None, Option, sym, refl, ap, ◌∙◌, subst, ap₂, inl, inr, suc-add, zero-add, arith}
use Rattle.std.proofs.lemmas.Bool.{and_from, cases_lt, cond-true, eq-eqb, le-leb}
use Rattle.base.specs.declared.refusal.Refusal.TheVariants as refusal
use Rattle.model.specs.Blocks.{Meaning, block_of}
use Rattle.model.specs.Laws.{Hopeful}
use Rattle.model.proofs.Blocks.{block-is-lawful}
use Rattle.plan.specs.Plans.{block_length}
use Rattle.plan.specs.declared.plan.Plan.{Plan}
use Rattle.search.specs.Calls.{Request, Word, Phase, Searching, Shown, Ended, Loaded, Decoder, Busy, Met, ShownWord, Paused, Answer, Advanced, Payload}
use Rattle.search.specs.Clean.{Clean, ShowsFree, Pauses}
use Rattle.search.specs.Lists.{Each}
use Rattle.search.specs.Paths.{Block, BlockLaws, allowed, child, information_bits}
use Rattle.search.specs.Search.{report_of, load_refusal, loaded, in_phase, after_take, failed, judged, is_left_out, with_put, put_child, put_children, step_from, step, spent, halt_at, halt, unless_halted, unless_shown, advanced, between, unless_refused, word_refusal, shown_payload, advancing, in_searching, wording, called}
use Rattle.search.specs.Records.{after}
use Rattle.search.specs.Stores.{Candidate, Store, StoreLaws, CapacityLaws}
use Rattle.search.proofs.Clean.{clean-comes-first, pauses-change-nothing}
use Rattle.search.proofs.Exact.{keeps-to-budget}
use Rattle.clean.specs.Advances.{turn_call, answers_to, Fitting, budgets, AnswersPaused, ShowsFirst, CleanWordFirst, PayloadRead}
use Rattle.clean.specs.Laws.{AnyCleanWordFirst, ReceivedWordFirst, ReceivedPayloadFirst}
use Rattle.clean.specs.Received.{path_of, ReceivedClean}
use Rattle.clean.proofs.Words.{stands-apart}

-- what a step leaves of a decoder's block and phase
record Onward {S : Type 0} (d after : Loaded S) : Type 0 where
  block : after.block ≡ d.block
  phase : (after.phase ≡ d.phase) ⊎ ((c : Candidate) × (after.phase ≡ Shown c))

module _ {S : Type 0} (m : Store S) where
  child-keeps : (path : List Bool) (u : Bool) (d : Loaded S) → ((put_child m path d u).phase ≡ d.phase) × ((put_child m path d u).block ≡ d.block)
  child-keeps path u d = go (is_left_out d.block path u)
    where
      go : (t : Bool) → ((cond t d (with_put m d (child path u))).phase ≡ d.phase) × ((cond t d (with_put m d (child path u))).block ≡ d.block)
      go true = (refl, refl)
      go false = (refl, refl)

  children-keep : (path us : List Bool) (d : Loaded S) → ((put_children m path d us).phase ≡ d.phase) × ((put_children m path d us).block ≡ d.block)
  children-keep path [] d = (refl, refl)
  children-keep path (u ∷ us) d =
      let one = child-keeps path u d in
      let rest = children-keep path us (put_child m path d u) in
      (rest.0 ∙ one.0, rest.1 ∙ one.1)

  step-onward : (d : Loaded S) → Onward d (step m d)
  step-onward d = go (m.kept d.store)
    where
      judge : (c : Candidate) (t : Bool) → Onward d (cond t (in_phase (after_take m d) (Shown c)) (failed (after_take m d)))
      judge c true = record { block = refl; phase = inr (c, refl) }
      judge c false = record { block = refl; phase = inl refl }

      explore : (c : Candidate) (t : Bool) → Onward d (cond t (judged c (after_take m d)) (put_children m c.path (after_take m d) (allowed d.block.kind c.path)))
      explore c true = judge c (d.block.accepted (information_bits d.block c.path))
      explore c false =
          let kept = children-keep c.path (allowed d.block.kind c.path) (after_take m d) in
          record { block = kept.1; phase = inl kept.0 }

      go : (cs : List Candidate) → Onward d (step_from m d cs)
      go [] = record { block = refl; phase = inl refl }
      go (c ∷ others) = explore c (eqb c.length d.block.size)

  -- a decoder that paused searches on, in the same block
  abbrev SearchesOn : Loaded S → Loaded S → Type 0
  SearchesOn d after = (after.phase ≡ Searching) × (after.block ≡ d.block)

  paused-searches : (budget : ℕ) (d : Loaded S) → d.phase ≡ Searching → Pauses m budget d → SearchesOn d (advanced m budget d).1
  unfolding advanced
  paused-searches zero d p e = go (m.kept d.store) (spent d) e
    where
      go : (cs : List Candidate) (t : Bool) → (unless_halted d (halt_at cs t) (Paused, d)).0 ≡ Paused → SearchesOn d (unless_halted d (halt_at cs t) (Paused, d)).1
      go [] t q = let z : ◌≡◌ {A = ℕ} 0 1 = cc in absurd (omega arith)
      go (c ∷ others) true q = let z : ◌≡◌ {A = ℕ} 0 1 = cc in absurd (omega arith)
      go (c ∷ others) false q = (p, refl)
  paused-searches (suc budget) d p e = go (m.kept d.store) (spent d) (step m d).phase refl (paused-searches budget (step m d)) e
    where
      end : Met × Loaded S
      end = advanced m budget (step m d)

      go : (cs : List Candidate) (t : Bool) (ph : Phase) → (step m d).phase ≡ ph → ((step m d).phase ≡ Searching → end.0 ≡ Paused → SearchesOn (step m d) end.1) → (unless_halted d (halt_at cs t) (unless_shown (step m d) ph end)).0 ≡ Paused → SearchesOn d (unless_halted d (halt_at cs t) (unless_shown (step m d) ph end)).1
      go [] t ph h later q = let z : ◌≡◌ {A = ℕ} 0 1 = cc in absurd (omega arith)
      go (c ∷ others) true ph h later q = let z : ◌≡◌ {A = ℕ} 0 1 = cc in absurd (omega arith)
      go (c ∷ others) false Searching h later q = let on = later h q in (on.0, on.1 ∙ (step-onward d).block)
      go (c ∷ others) false (Shown x) h later q = let z : ◌≡◌ {A = ℕ} 0 1 = cc in absurd (omega arith)
      go (c ∷ others) false Ended h later q = absurd (elim (step-onward d).phase [
        | inl same ↦ (let z : ◌≡◌ {A = ℕ} 0 1 = cc in omega arith)
        | inr shown ↦ (let s = shown.1 in let z : ◌≡◌ {A = ℕ} 0 1 = cc in omega arith)
      ])

  -- an advance that does not pause ends the same with more budget
  ends-alike : (first more : ℕ) (d : Loaded S) → Pauses m first d ⊎ (advanced m (first + more) d ≡ advanced m first d)
  unfolding advanced
  ends-alike zero more d = elim (go (halt m d) refl more) [ inl p ↦ inl p | inr e ↦ inr (ap (λ n. advanced m n d) (zero-add more) ∙ e) ]
    where
      go : (h : Option Met) → halt m d ≡ h → (more : ℕ) → ((unless_halted d h (Paused, d)).0 ≡ Paused) ⊎ (advanced m more d ≡ unless_halted d h (Paused, d))
      go None e more = inl refl
      go (Some met) e zero = inr (ap (λ h. unless_halted d h (Paused, d)) e)
      go (Some met) e (suc more) = inr (ap (λ h. unless_halted d h (unless_shown (step m d) (step m d).phase (advanced m more (step m d)))) e)
  ends-alike (suc first) more d = elim (go (halt m d) (step m d).phase (ends-alike first more (step m d))) [ inl p ↦ inl p | inr e ↦ inr (ap (λ n. advanced m n d) (suc-add first more) ∙ e) ]
    where
      go : (h : Option Met) (ph : Phase) → Pauses m first (step m d) ⊎ (advanced m (first + more) (step m d) ≡ advanced m first (step m d)) → ((unless_halted d h (unless_shown (step m d) ph (advanced m first (step m d)))).0 ≡ Paused) ⊎ (unless_halted d h (unless_shown (step m d) ph (advanced m (first + more) (step m d))) ≡ unless_halted d h (unless_shown (step m d) ph (advanced m first (step m d))))
      go (Some met) ph later = inr refl
      go None Searching later = later
      go None (Shown c) later = inr refl
      go None Ended later = later

-- a decoder that shows the word, in the block of another
record Showing {S : Type 0} (word : List Bool) (block : Block) (d : Loaded S) : Type 0 where
  candidate : Candidate
  phase : d.phase ≡ Shown candidate
  path : candidate.path ≡ word
  kept : d.block ≡ block

module _ {S : Type 0} (m : Store S) where
  ends-showing : (word : List Bool) (budget : ℕ) (d : Loaded S) → (advanced m budget d).0 ≡ ShownWord word → Showing word d.block (advanced m budget d).1
  unfolding advanced
  ends-showing word zero d e = go (m.kept d.store) (spent d) e
    where
      go : (cs : List Candidate) (t : Bool) → (unless_halted d (halt_at cs t) (Paused, d)).0 ≡ ShownWord word → Showing word d.block (unless_halted d (halt_at cs t) (Paused, d)).1
      go [] t q = let z : ◌≡◌ {A = ℕ} 0 1 = cc in absurd (omega arith)
      go (c ∷ others) true q = let z : ◌≡◌ {A = ℕ} 0 1 = cc in absurd (omega arith)
      go (c ∷ others) false q = let z : ◌≡◌ {A = ℕ} 0 1 = cc in absurd (omega arith)
  ends-showing word (suc budget) d e = go (m.kept d.store) (spent d) (step m d).phase refl (ends-showing word budget (step m d)) e
    where
      end : Met × Loaded S
      end = advanced m budget (step m d)

      on : Showing word (step m d).block end.1 → Showing word d.block end.1
      on s = record { candidate = s.candidate; phase = s.phase; path = s.path; kept = s.kept ∙ (step-onward m d).block }

      go : (cs : List Candidate) (t : Bool) (ph : Phase) → (step m d).phase ≡ ph → (end.0 ≡ ShownWord word → Showing word (step m d).block end.1) → (unless_halted d (halt_at cs t) (unless_shown (step m d) ph end)).0 ≡ ShownWord word → Showing word d.block (unless_halted d (halt_at cs t) (unless_shown (step m d) ph end)).1
      go [] t ph h later q = let z : ◌≡◌ {A = ℕ} 0 1 = cc in absurd (omega arith)
      go (c ∷ others) true ph h later q = let z : ◌≡◌ {A = ℕ} 0 1 = cc in absurd (omega arith)
      go (c ∷ others) false Searching h later q = on (later q)
      go (c ∷ others) false (Shown x) h later q = record { candidate = x; phase = h; path = cc; kept = (step-onward m d).block }
      go (c ∷ others) false Ended h later q = on (later q)

  -- further advances are refused, and change nothing
  shown-stays : (turns : List (ℕ × ℕ)) (d : Loaded S) (c : Candidate) → d.phase ≡ Shown c → after m (Busy d) (map turn_call turns) ≡ Busy d
  shown-stays [] d c e = refl
  shown-stays (turn ∷ turns) d c e = ap (λ p. after m (in_searching m d p turn.0 turn.1).0 (map turn_call turns)) e ∙ shown-stays turns d c e

-- a decoder that has so many steps left before it shows the word
record Ahead {S : Type 0} (m : Store S) (word : List Bool) (size left : ℕ) (d : Loaded S) : Type 0 where
  phase : d.phase ≡ Searching
  sized : d.block.size ≡ size
  waits : (budget : ℕ) → budget ≤ left → Pauses m budget d
  shows : (budget : ℕ) → left < budget → ShowsFree m word (suc size) (advanced m budget d)

module _ {S : Type 0} (m : Store S) (word : List Bool) (size : ℕ) where
  ahead-later : {left : ℕ} (budget : ℕ) (d : Loaded S) → budget ≤ left → Ahead m word size left d → Ahead m word size (left - budget) (advanced m budget d).1
  ahead-later budget d h a =
      let still = a.waits budget h in
      let on = paused-searches m budget d a.phase still in
      record {
        phase = on.0;
        sized = ap (λ (b : Block). b.size) on.1 ∙ a.sized;
        waits = λ more l. ap (λ end. end.0) (sym (pauses-change-nothing m budget more d still)) ∙ a.waits (budget + more) (omega arith);
        shows = λ more l. subst (ShowsFree m word (suc size)) (pauses-change-nothing m budget more d still) (a.shows (budget + more) (omega arith));
      }

  granted : {left : ℕ} (d : Loaded S) (turn : ℕ × ℕ) → Fitting size turn → Ahead m word size left d → called m (Busy d) (turn_call turn) ≡ advancing m (advanced m turn.0 d)
  granted d turn fit a =
      let room : 2 * d.block.size ≤ turn.1 = subst (λ k. 2 * k ≤ turn.1) (sym a.sized) fit.scratch in
      let budget : between 1 65536 turn.0 ≡ true = and_from (leb 1 turn.0) (leb turn.0 65536) (le-leb 1 turn.0 fit.least) (le-leb turn.0 65536 fit.most) in
      let fine = and_from (between 1 65536 turn.0) (leb (2 * d.block.size) turn.1) budget (le-leb (2 * d.block.size) turn.1 room) in
      ap (λ p. in_searching m d p turn.0 turn.1) a.phase
      ∙ ap (λ r. unless_refused (Busy d) r (advancing m (advanced m turn.0 d))) (cond-true (between 1 65536 turn.0 && leb (2 * d.block.size) turn.1) None (Some refusal.Budget) fine)

  abbrev Answered : (left budget : ℕ) → List Answer → Type 0
  Answered left budget answers = (budget ≤ left → Each AnswersPaused answers) × (left < budget → ShowsFirst word (suc size) answers)

  answered : (turns : List (ℕ × ℕ)) (left : ℕ) (d : Loaded S) → Each (Fitting size) turns → Ahead m word size left d → Answered left (budgets turns) (answers_to m (Busy d) turns)
  answered [] left d fit a = (λ h. tt, λ h. omega arith)
  answered (turn ∷ turns) left d fit a =
      subst (λ c. Answered left (budgets (turn ∷ turns)) (c.1 ∷ answers_to m c.0 turns)) (sym (granted d turn fit.0 a))
      (go (cases_lt left turn.0) (λ h. answered turns (left - turn.0) end.1 fit.1 (ahead-later turn.0 d h a)))
    where
      end : Met × Loaded S
      end = advanced m turn.0 d

      paused : turn.0 ≤ left → AnswersPaused (Advanced end.0 (report_of m end.1))
      paused h = record { report = report_of m end.1; is = ap (λ met. Advanced met (report_of m end.1)) (a.waits turn.0 h) }

      go : (left < turn.0) ⊎ (turn.0 ≤ left) → (turn.0 ≤ left → Answered (left - turn.0) (budgets turns) (answers_to m (Busy end.1) turns)) → Answered left (turn.0 + budgets turns) (Advanced end.0 (report_of m end.1) ∷ answers_to m (Busy end.1) turns)
      go (inl l) later =
          let free = a.shows turn.0 l in
          (λ h. absurd (omega arith), λ h. inl (record { report = report_of m end.1; is = ap (λ met. Advanced met (report_of m end.1)) free.met; free = free.metric; counted = free.steps }))
      go (inr l) later = (λ h. (paused l, (later l).0 (omega arith)), λ h. inr (paused l, (later l).1 (omega arith)))

  -- after enough turns the decoder shows the word
  abbrev Shows : Block → Decoder S → Type 0
  Shows b after = (d : Loaded S) × (after ≡ Busy d) × Showing word b d

  shows-at-last : (turns : List (ℕ × ℕ)) (left : ℕ) (d : Loaded S) → Each (Fitting size) turns → Ahead m word size left d → left < budgets turns → Shows d.block (after m (Busy d) (map turn_call turns))
  shows-at-last [] left d fit a h = absurd (omega arith)
  shows-at-last (turn ∷ turns) left d fit a h =
      subst (λ c. Shows d.block (after m c.0 (map turn_call turns))) (sym (granted d turn fit.0 a))
      (go (cases_lt left turn.0) (λ l. shows-at-last turns (left - turn.0) end.1 fit.1 (ahead-later turn.0 d l a)))
    where
      end : Met × Loaded S
      end = advanced m turn.0 d

      go : (left < turn.0) ⊎ (turn.0 ≤ left) → (turn.0 ≤ left → left - turn.0 < budgets turns → Shows end.1.block (after m (Busy end.1) (map turn_call turns))) → Shows d.block (after m (Busy end.1) (map turn_call turns))
      go (inl l) later =
          let shown = ends-showing m word turn.0 d (a.shows turn.0 l).met in
          (end.1, shown-stays m turns end.1 shown.candidate shown.phase, shown)
      go (inr l) later = subst (λ b. Shows b (after m (Busy end.1) (map turn_call turns))) (paused-searches m turn.0 d a.phase (a.waits turn.0 l)).1 (later l (omega arith))

  -- the payload is then read
  word_read : (b : Block) (decoder : Decoder S) → Shows b decoder → (called m decoder (Word b.payload_length)).1 ≡ Payload (b.payload (information_bits b word))
  word_read b decoder (d, is, shown) =
      let same : word_refusal d b.payload_length ≡ None = ap (λ (x : Block). cond (eqb b.payload_length x.payload_length) None (Some refusal.OutputLength)) shown.kept ∙ cond-true (eqb b.payload_length b.payload_length) None (Some refusal.OutputLength) (eq-eqb b.payload_length b.payload_length refl) in
      ap (λ x. (called m x (Word b.payload_length)).1) is
      ∙ ap (λ p. (wording d p b.payload_length).1) shown.phase
      ∙ ap (λ r. (unless_refused (Busy d) r (Busy d, Payload (shown_payload d shown.candidate))).1) same
      ∙ ap₂ (λ (x : Block) w. Payload (x.payload (information_bits x w))) shown.kept shown.path

module _ {S : Type 0} (m : Store S) (rules : StoreLaws m) (capacity : CapacityLaws m) where
  module _ (s : S) (q : Request) (word : List Bool) (given : load_refusal q ≡ None) (laws : BlockLaws q.block) (clean : Clean q.block word) (permitted : q.block.size < q.steps) where
    start : Ahead m word q.block.size q.block.size (loaded m s q)
    start = record {
      phase = refl;
      sized = refl;
      waits = λ budget h. elim (ends-alike m budget (suc q.block.size) (loaded m s q)) [
        | inl p ↦ p
        | inr e ↦ (let made : (advanced m budget (loaded m s q)).1.steps ≡ suc q.block.size = ap (λ end. end.1.steps) (sym e) ∙ (shows (budget + suc q.block.size) (omega arith)).steps in
            let most = keeps-to-budget m budget (loaded m s q) in
            absurd (omega arith))
      ];
      shows = shows;
    }
      where
        shows : (budget : ℕ) → q.block.size < budget → ShowsFree m word (suc q.block.size) (advanced m budget (loaded m s q))
        shows = clean-comes-first m rules capacity s q word given laws clean permitted

  pub clean-word-first : AnyCleanWordFirst m
  clean-word-first s q word given laws clean permitted turns fit =
      let both = answered m word q.block.size turns q.block.size (loaded m s q) fit (start s q word given laws clean permitted) in
      record { waits = both.0; shows = both.1 }

  clean-word-read : (s : S) (q : Request) (word : List Bool) → load_refusal q ≡ None → BlockLaws q.block → Clean q.block word → q.block.size < q.steps
      → (turns : List (ℕ × ℕ)) → Each (Fitting q.block.size) turns → PayloadRead m (Busy (loaded m s q)) (q.block.payload (information_bits q.block word)) q.block.size q.block.payload_length turns
  clean-word-read s q word given laws clean permitted turns fit enough =
      word_read m word q.block.size q.block (after m (Busy (loaded m s q)) (map turn_call turns))
      (shows-at-last m word q.block.size turns q.block.size (loaded m s q) fit (start s q word given laws clean permitted) enough)

  -- what the block of a word received clean brings with it
  received-block : (plan : Plan) (check : Meaning) (word : List Bool) (values llr : ℕ → ℤ) → Hopeful check → ReceivedClean plan check word values llr → (b : Block) → b ≡ block_of plan llr check
      → BlockLaws b × Clean b (path_of plan word) × (b.size ≡ block_length plan)
  received-block plan check word values llr hopeful received b is = (
    subst BlockLaws (sym is) (block-is-lawful plan llr check hopeful),
    subst (λ x. Clean x (path_of plan word)) (sym is) (stands-apart plan check word values llr received),
    ap (λ (x : Block). x.size) is,
  )

  pub received-word-first : ReceivedWordFirst m
  received-word-first plan check word values llr hopeful received s q is given permitted turns fit =
      let (laws, clean, sized) = received-block plan check word values llr hopeful received q.block is in
      subst (λ k. CleanWordFirst m (Busy (loaded m s q)) (path_of plan word) k turns) sized
      (clean-word-first s q (path_of plan word) given laws clean (omega arith) turns (subst (λ k. Each (Fitting k) turns) (sym sized) fit))

  pub received-payload-first : ReceivedPayloadFirst m
  received-payload-first plan check payload word values llr hopeful carried s q is given permitted turns fit enough =
      let (laws, clean, sized) = received-block plan check word values llr hopeful carried.received q.block is in
      let read = clean-word-read s q (path_of plan word) given laws clean (omega arith) turns (subst (λ k. Each (Fitting k) turns) (sym sized) fit) (omega arith) in
      ap (λ (b : Block). (called m (after m (Busy (loaded m s q)) (map turn_call turns)) (Word b.payload_length)).1) (sym is) ∙ read
      ∙ ap (λ (b : Block). Payload (b.payload (information_bits b (path_of plan word)))) is ∙ ap Payload carried.read
