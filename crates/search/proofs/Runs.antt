-- The invariant kept by every call, and with it the promise over every run. Assumes a store's laws and those of granted blocks.
use Rattle.std.proofs.Common.{◌≡◌, ℕ, ◌+◌, ◌≤◌, ◌⊎◌, List, [], ◌∷◌, Some, None, Option, sym, refl, ap, ◌∙◌, subst, inl, inr, arith}
use Rattle.base.specs.declared.refusal.Refusal.{Refusal}
use Rattle.search.specs.Lists.{Among}
use Rattle.search.specs.Paths.{Block, BlockLaws}
use Rattle.search.specs.Stores.{Candidate, Store, StoreLaws, lesser, first_metric, Reaches, InOrder, Keeps}
use Rattle.search.specs.Calls.{Request, Call, Load, Advance, Strike, Word, Report, Phase, Searching, Shown, Ended, Loaded, Decoder, Blank, Busy, Figures, Met, ShownWord, NoneLeft, GivenUp, Paused, Reported, Payload}
use Rattle.search.specs.Search.{report_of, load_refusal, root, loaded, advanced, advance_refusal, word_refusal, store_of, unless_refused, reporting, advancing, in_searching, struck, wording, called, shown_payload}
use Rattle.search.specs.Records.{Entry, recorded, after, Showing, Session, showing, onward, session_from, session, LawfulCall, LawfulCalls}
use Rattle.search.specs.Promise.{EachShown, NoneLeftBelow, Cheapest, Faithful, FewSteps, Promise, OfEveryRun}
use Rattle.search.proofs.Lists.{each_at, among-count}
use Rattle.search.proofs.Prefixes.{is_prefix, times}
use Rattle.search.proofs.Lawful.{admissible-hopeful}
use Rattle.search.proofs.Invariant.{begun, begun-costs, reaches_more, sieved, at-start}
use Rattle.search.proofs.Rules.{lesser-left, lesser-right}
use Rattle.search.proofs.Steps.{ShownWell, Sound, added, Ends, some-part, rephased, advancing-sound}

-- the decoder and the record of its calls speak of one block, and what was shown of it
pub record Follows {S : Type 0} (m : Store S) (d : Loaded S) (heard : Option Session) : Type 0 where
  pub showings : List Showing
  pub known : heard ≡ Some (record { block = d.block; showings = showings })
  pub sound : Sound m d showings [] []

abbrev pub Agrees : {S : Type 0} → Store S → Decoder S → Option Session → Type 0
Agrees m (Blank s) heard = heard ≡ None
Agrees m (Busy d) heard = Follows m d heard

showing-added : (b : Block) (showings : List Showing) (met : Met) (r : Figures) → showing (Some (record { block = b; showings = showings })) met r ≡ Some (record { block = b; showings = added met r showings })
showing-added b showings (ShownWord w) r = refl
showing-added b showings NoneLeft r = refl
showing-added b showings GivenUp r = refl
showing-added b showings Paused r = refl

each-shown : (P Q : Showing → List Showing → Type 0) → ((s : Showing) (earlier : List Showing) → P s earlier → Q s earlier) → (showings : List Showing) → EachShown P showings → EachShown Q showings
each-shown P Q f [] e = tt
each-shown P Q f (s ∷ earlier) e = (f s earlier e.0, each-shown P Q f earlier e.1)

module _ {S : Type 0} (m : Store S) (rules : StoreLaws m) where
  -- Load

  sound-loaded : (s : S) (q : Request) → BlockLaws q.block → Sound m (loaded m s q) [] [] []
  sound-loaded s q laws = record {
    laws = laws;
    taken = [];
    level = 0;
    in_order = rules.put-in-order e root (subst InOrder (sym (rules.empty s q.capacity).0) tt);
    explored = sieved laws (at-start laws) (subst (λ f. Keeps (root ∷ []) f kept floor) (rules.empty s q.capacity).1 (subst (λ cs. Keeps (root ∷ cs) (m.floor e) kept floor) (rules.empty s q.capacity).0 (rules.puts e root)));
    told = record { taken-shown = λ w h a. absurd (omega arith); shown-taken = λ w a. absurd a; well = tt };
    steps = refl;
  }
    where
      e : S
      e = m.emptied s q.capacity

      kept : List Candidate
      kept = m.kept (m.put e root)

      floor : Option ℕ
      floor = m.floor (m.put e root)

  -- a refused call leaves decoder and session alone
  loading : (d : Decoder S) (heard : Option Session) (q : Request) → Agrees m d heard → (r : Option Refusal) → (r ≡ None → BlockLaws q.block) → Agrees m (unless_refused d r (reporting m (loaded m (store_of d) q))).0 (onward heard (Load q) (unless_refused d r (reporting m (loaded m (store_of d) q))).1)
  loading d heard q i None laws = record { showings = []; known = refl; sound = sound-loaded (store_of d) q (laws refl) }
  loading d heard q i (Some r) laws = i

  -- Advance

  ended-follows : (d : Loaded S) (heard : Option Session) (end : Met × Loaded S) (i : Follows m d heard) → Ends m d end i.showings → Follows m end.1 (showing heard end.0 (report_of m end.1))
  ended-follows d heard end i (s, k) = record {
    showings = added end.0 (report_of m end.1) i.showings;
    known = ap (λ h. showing h end.0 (report_of m end.1)) i.known ∙ showing-added d.block i.showings end.0 (report_of m end.1) ∙ ap (λ b. Some (record { block = b; showings = added end.0 (report_of m end.1) i.showings })) (sym k);
    sound = s;
  }

  advance-granted : (d : Loaded S) (heard : Option Session) (budget scratch : ℕ) → d.phase ≡ Searching → Follows m d heard → (r : Option Refusal) → Agrees m (unless_refused (Busy d) r (advancing m (advanced m budget d))).0 (onward heard (Advance budget scratch) (unless_refused (Busy d) r (advancing m (advanced m budget d))).1)
  advance-granted d heard budget scratch p i None = ended-follows d heard (advanced m budget d) i (advancing-sound m rules budget d p i.sound)
  advance-granted d heard budget scratch p i (Some r) = i

  advance-follows : (d : Loaded S) (heard : Option Session) (budget scratch : ℕ) → Follows m d heard → (p : Phase) → d.phase ≡ p → Agrees m (in_searching m d p budget scratch).0 (onward heard (Advance budget scratch) (in_searching m d p budget scratch).1)
  advance-follows d heard budget scratch i Searching e = advance-granted d heard budget scratch e i (advance_refusal d budget scratch)
  advance-follows d heard budget scratch i (Shown c) e = i
  advance-follows d heard budget scratch i Ended e = i

  -- Strike, word and report

  strike-follows : (d : Loaded S) (heard : Option Session) → Follows m d heard → (p : Phase) → Agrees m (struck m d p).0 heard
  strike-follows d heard i Searching = i
  strike-follows d heard i (Shown c) = record { showings = i.showings; known = i.known; sound = rephased m rules Searching i.sound }
  strike-follows d heard i Ended = i

  word-granted : (d : Loaded S) (heard : Option Session) → Follows m d heard → (c : Candidate) (r : Option Refusal) → Agrees m (unless_refused (Busy d) r (Busy d, Payload (shown_payload d c))).0 heard
  word-granted d heard i c None = i
  word-granted d heard i c (Some r) = i

  word-follows : (d : Loaded S) (heard : Option Session) (output : ℕ) → Follows m d heard → (p : Phase) → Agrees m (wording d p output).0 heard
  word-follows d heard output i Searching = i
  word-follows d heard output i (Shown c) = word-granted d heard i c (word_refusal d output)
  word-follows d heard output i Ended = i

  -- Every call, and every run

  call-agrees : (d : Decoder S) (heard : Option Session) (c : Call) → LawfulCall c → Agrees m d heard → Agrees m (called m d c).0 (onward heard c (called m d c).1)
  call-agrees d heard (Load q) laws i = loading d heard q i (load_refusal q) laws
  call-agrees (Blank s) heard (Advance budget scratch) laws i = i
  call-agrees (Busy d) heard (Advance budget scratch) laws i = advance-follows d heard budget scratch i d.phase refl
  call-agrees (Blank s) heard Strike laws i = i
  call-agrees (Busy d) heard Strike laws i = strike-follows d heard i d.phase
  call-agrees (Blank s) heard (Word output) laws i = i
  call-agrees (Busy d) heard (Word output) laws i = word-follows d heard output i d.phase
  call-agrees (Blank s) heard Report laws i = i
  call-agrees (Busy d) heard Report laws i = i

  run-agrees : (calls : List Call) (d : Decoder S) (heard : Option Session) → LawfulCalls calls → Agrees m d heard → Agrees m (after m d calls) (session_from heard (recorded m d calls))
  run-agrees [] d heard laws i = i
  run-agrees (c ∷ cs) d heard laws i = run-agrees cs (called m d c).0 (onward heard c (called m d c).1) laws.1 (call-agrees d heard c laws.0 i)

  -- The promise of what agrees

  first-least : (c : Candidate) (cs : List Candidate) → InOrder cs → Among c cs → Reaches c.metric (first_metric cs)
  first-least c [] o a = absurd a
  first-least c (x ∷ xs) o (inl e) = let h : c.metric ≡ x.metric = ap (λ (y : Candidate). y.metric) e in omega arith
  first-least c (x ∷ xs) o (inr a) = each_at (λ y. x.metric ≤ y.metric) xs o.0 c a

  none_hidden : (d : Loaded S) (showings : List Showing) → Sound m d showings [] [] → NoneLeftBelow (record { block = d.block; showings = showings }) (report_of m d)
  none_hidden d showings i w a unshown = go (i.explored.covered w a.lawful (admissible-hopeful d.block i.laws w a))
    where
      kept : List Candidate
      kept = m.kept d.store

      found : (1 ≤ times w i.taken) ⊎ (1 ≤ begun w kept) → Reaches (d.block.cost w) (lesser (m.floor d.store) (first_metric kept))
      found (inl h) = absurd (unshown (i.told.taken-shown w h a))
      found (inr h) = let (c, k, p) = among-count (λ x. is_prefix x.path w) kept h in lesser-right (d.block.cost w) (m.floor d.store) (first_metric kept) (reaches_more c.metric (d.block.cost w) (first_metric kept) (begun-costs d.block i.laws kept i.explored.sound w a.lawful c k p) (first-least c kept i.in_order k))

      go : (1 ≤ times w i.taken + (begun w kept + 0)) ⊎ Reaches (d.block.cost w) (m.floor d.store) → Reaches (d.block.cost w) (lesser (m.floor d.store) (first_metric kept))
      go (inl h) = found (some-part (times w i.taken) (begun w kept) h)
      go (inr r) = lesser-left (d.block.cost w) (m.floor d.store) (first_metric kept) r

  promised : (entries : List Entry) (d : Decoder S) → Agrees m d (session entries) → Promise entries (called m d Report).1
  promised entries (Blank s) i = record {
    hidden = record { left = λ s e r q. absurd (never s e); cheapest = λ s e. absurd (never s e) };
    faithful = λ s e. absurd (never s e);
    steps = λ s e. absurd (never s e);
  }
    where
      never : (s : Session) → session entries ≡ Some s → ⊥
      never s e = let z : ◌≡◌ {A = ℕ} 0 1 = cc in omega arith
  promised entries (Busy d) i = record {
    hidden = record {
      left = λ s e r q. subst (λ x. NoneLeftBelow x r) (is s e) (subst (λ x. NoneLeftBelow (record { block = d.block; showings = i.showings }) x) (told r q) (none_hidden d i.showings i.sound));
      cheapest = λ s e. subst (λ x. EachShown (Cheapest x.block) x.showings) (is s e) (each-shown (ShownWell d.block) (Cheapest d.block) (λ x earlier h. h.cheapest) i.showings well);
    };
    faithful = λ s e. subst (λ x. EachShown (Faithful x.block) x.showings) (is s e) (each-shown (ShownWell d.block) (Faithful d.block) (λ x earlier h. h.faithful) i.showings well);
    steps = λ s e. subst (λ x. EachShown (FewSteps x.block) x.showings) (is s e) (each-shown (ShownWell d.block) (FewSteps d.block) (λ x earlier h. h.steps) i.showings well);
  }
    where
      well : EachShown (ShownWell d.block) i.showings
      well = i.sound.told.well

      is : (s : Session) → session entries ≡ Some s → record { block = d.block; showings = i.showings } ≡ s
      is s e = let h = i.known in cc

      told : (r : Figures) → Reported (report_of m d) ≡ Reported r → report_of m d ≡ r
      told r q = cc

  pub promise-kept : OfEveryRun m Promise
  promise-kept s calls laws = promised (recorded m (Blank s) calls) (after m (Blank s) calls) (run-agrees calls (Blank s) None laws refl)
