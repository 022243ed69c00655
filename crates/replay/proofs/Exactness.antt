-- The metrics that are reported with shown words are exact sums. Assumes nothing.
use Rattle.std.proofs.Common.{◌≡◌, ℕ, zero, suc, List, [], ◌∷◌, take, ℤ, pos, Some, None, Option, slice_index_or, refl, ap, ◌∙◌}
use Rattle.outer.specs.declared.check.Judge as Judge
use Rattle.search.specs.Calls as search
use Rattle.search.specs.Paths.{Block}
use Rattle.search.specs.Promise.{EachShown, Faithful}
use Rattle.search.specs.Records.{Session, Showing, onward, recorded, session_from, showing}
use Rattle.search.specs.Search.{called}
use Rattle.search.specs.Stores.{Contents, ruled}
use Rattle.model.specs.Blocks.{block_of, meaning_of}
use Rattle.model.specs.Laws.{Hopeful}
use Rattle.model.proofs.Blocks.{word-costs}
use Rattle.replay.specs.Plays.{call_of}
use Rattle.replay.specs.Replays.{calls_of}
use Rattle.replay.specs.Exact.{Source, contradicted_by, source_on, source_from, ShownExact, MetricsExact}
use Rattle.replay.specs.declared.call.Call.{Call}
use Rattle.replay.specs.declared.call.Call.TheVariants as call
use Rattle.replay.proofs.Replayed.{keeps-promise}

module _ {C : Type 0} (judge : Judge.Ghosts C) (check : C) (values : List ℤ) (scratch output : ℕ) where
  -- the loaded block is made from the source
  abbrev Tied : Option Session → Option Source → Type 0
  Tied None None = Unit {0}
  Tied None (Some b) = ⊥
  Tied (Some s) None = ⊥
  Tied (Some s) (Some b) = s.block ≡ block_of b.plan (λ k. slice_index_or b.llrs k (pos 0)) (meaning_of judge check)

  tied-showing : (s : Option Session) (b : Option Source) (met : search.Met) (r : search.Figures) → Tied s b → Tied (showing s met r) b
  tied-showing None b met r t = t
  tied-showing (Some s) b (search.ShownWord w) r t = shown b t
    where
      shown : (b : Option Source) → Tied (Some s) b → Tied (showing (Some s) (search.ShownWord w) r) b
      shown None t = t
      shown (Some b) t = t
  tied-showing (Some s) b search.NoneLeft r t = t
  tied-showing (Some s) b search.GivenUp r t = t
  tied-showing (Some s) b search.Paused r t = t

  tied-onward : (s : Option Session) (b : Option Source) (c : Call) (a : search.Answer) → Tied s b → Tied (onward s (call_of judge check values scratch output c) a) (source_on values b c a)
  tied-onward s b (call.Load plan at count limits) (search.Refused e) t = t
  tied-onward s b (call.Load plan at count limits) (search.Reported f) t = refl
  tied-onward s b (call.Load plan at count limits) (search.Advanced met f) t = t
  tied-onward s b (call.Load plan at count limits) (search.Payload p) t = t
  tied-onward s b (call.Advance budget words) (search.Refused e) t = t
  tied-onward s b (call.Advance budget words) (search.Reported f) t = t
  tied-onward s b (call.Advance budget words) (search.Advanced met f) t = tied-showing s b met f t
  tied-onward s b (call.Advance budget words) (search.Payload p) t = t
  tied-onward s b call.Strike a t = t
  tied-onward s b (call.Word bytes) a t = t
  tied-onward s b call.Report a t = t

  tied-from :
      (k : ℕ) (calls : List Call) (d : search.Decoder Contents) (s : Option Session) (b : Option Source) → Tied s b
      → Tied (session_from s (recorded ruled d (take k (calls_of judge check values scratch output calls)))) (source_from values b (take k calls) (recorded ruled d (take k (calls_of judge check values scratch output calls))))
  tied-from zero calls d s b t = t
  tied-from (suc k) [] d s b t = t
  tied-from (suc k) (c ∷ cs) d s b t =
      let next = called ruled d (call_of judge check values scratch output c) in
      tied-from k cs next.0 (onward s (call_of judge check values scratch output c) next.1) (source_on values b c next.1) (tied-onward s b c next.1 t)

  exact-each :
      (b : Source) (block : Block) → block ≡ block_of b.plan (λ k. slice_index_or b.llrs k (pos 0)) (meaning_of judge check) → (showings : List Showing)
      → EachShown (Faithful block) showings → EachShown (λ shown earlier. shown.report.shown ≡ Some (contradicted_by b shown.word)) showings
  exact-each b block is [] h = tt
  exact-each b block is (x ∷ xs) h = (
    h.0.metric
        ∙ ap (λ (q : Block). Some (q.cost x.word)) is
        ∙ ap Some (word-costs b.plan (λ k. slice_index_or b.llrs k (pos 0)) (meaning_of judge check) x.word (h.0.admissible.whole ∙ ap (λ (q : Block). q.size) is)),
    exact-each b block is xs h.1,
  )

  shown-exact : (s : Option Session) (b : Option Source) → Tied s b → ((x : Session) → s ≡ Some x → EachShown (Faithful x.block) x.showings) → ShownExact s b
  shown-exact None b t h = tt
  shown-exact (Some s) None t h = t
  shown-exact (Some s) (Some b) t h = exact-each b s.block t s.showings (h s refl)

  pub metrics-exact : Hopeful (meaning_of judge check) → (s : Contents) (calls : List Call) → MetricsExact values calls (record { start = search.Blank s; calls = calls_of judge check values scratch output calls })
  metrics-exact hopeful s calls k =
      shown-exact _ _ (tied-from k calls (search.Blank s) None None tt) (keeps-promise judge check values scratch output hopeful s calls k).faithful
