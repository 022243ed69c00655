-- A run of calls, one call at a time, and the promise over all of it. Assumes nothing.
use Rattle.std.proofs.Common.{◌≡◌, ℕ, zero, suc, ◌+◌, ◌<◌, ◌≤◌, List, [], ◌∷◌, ◌++◌, map, length, get_or, take, drop, ℤ, pos, Result, sym, refl, ap, ◌∙◌, subst, ap₂}
use Rattle.std.proofs.lemmas.List.{append_assoc, append-nil, drop-map, drop_more, drop_all, length-map}
use Rattle.base.specs.declared.refusal.Refusal.{Refusal}
use Rattle.outer.specs.declared.check.Judge as Judge
use Rattle.search.specs.Calls as search
use Rattle.search.specs.Records.{LawfulCall, LawfulCalls, recorded, after}
use Rattle.search.specs.Search.{called}
use Rattle.search.specs.Stores.{Contents, ruled}
use Rattle.search.proofs.Rules.{rules-make-a-store}
use Rattle.search.proofs.Runs.{promise-kept}
use Rattle.model.specs.Blocks.{meaning_of}
use Rattle.model.specs.Laws.{Hopeful}
use Rattle.model.proofs.Blocks.{block-is-lawful}
use Rattle.replay.specs.Plays.{call_of, heard, output_left, scratch_left}
use Rattle.replay.specs.Replays.{KeepsPromise, answers_in, calls_of, left_after}
use Rattle.replay.specs.declared.call.Answer.{Answer}
use Rattle.replay.specs.declared.call.Call.{Call}
use Rattle.replay.specs.declared.call.Call.TheVariants as call

-- what is still to be played from here leads to what all of it leads to from the start
pub record Remains (start here : search.Decoder Contents) (all rest : List search.Call) (answers : List (Result Answer Refusal)) (scratch₀ scratch : List ℤ) (output₀ output : List ℕ) : Type 0 where
  pub answers_of : answers_in (recorded ruled start all) ≡ answers ++ answers_in (recorded ruled here rest)
  pub decoder : after ruled start all ≡ after ruled here rest
  pub scratch-of : left_after scratch_left start all scratch₀ ≡ left_after scratch_left here rest scratch
  pub output-of : left_after output_left start all output₀ ≡ left_after output_left here rest output

pub remains-all : (d : search.Decoder Contents) (calls : List search.Call) (answers : List (Result Answer Refusal)) (scratch : List ℤ) (output : List ℕ) → answers ≡ [] → Remains d d calls calls answers scratch scratch output output
remains-all d calls answers scratch output none = record {
  answers_of = sym (ap (λ xs. xs ++ answers_in (recorded ruled d calls)) none);
  decoder = refl;
  scratch-of = refl;
  output-of = refl;
}

module _ (start here next : search.Decoder Contents) (all rest later : List search.Call) (c : search.Call) (answers answers' : List (Result Answer Refusal)) (a : Result Answer Refusal) (scratch₀ scratch scratch' : List ℤ) (output₀ output output' : List ℕ) where
  pub remains-less :
      Remains start here all rest answers scratch₀ scratch output₀ output → rest ≡ c ∷ later
      → next ≡ (called ruled here c).0 → a ≡ heard (called ruled here c).1 → answers' ≡ answers ++ (a ∷ [])
      → scratch' ≡ scratch_left here (called ruled here c).1 scratch → output' ≡ output_left here (called ruled here c).1 output
      → Remains start next all later answers' scratch₀ scratch' output₀ output'
  remains-less r split model answer pushed wiped written = record {
    answers_of =
        r.answers_of ∙ ap (λ cs. answers ++ answers_in (recorded ruled here cs)) split
        ∙ ap₂ (λ x d. answers ++ (x ∷ answers_in (recorded ruled d later))) (sym answer) (sym model)
        ∙ sym (append_assoc answers (a ∷ []) (answers_in (recorded ruled next later))) ∙ ap (λ xs. xs ++ answers_in (recorded ruled next later)) (sym pushed);
    decoder = r.decoder ∙ ap (after ruled here) split ∙ ap (λ d. after ruled d later) (sym model);
    scratch-of = r.scratch-of ∙ ap (λ cs. left_after scratch_left here cs scratch) split ∙ ap₂ (λ d xs. left_after scratch_left d later xs) (sym model) (sym wiped);
    output-of = r.output-of ∙ ap (λ cs. left_after output_left here cs output) split ∙ ap₂ (λ d xs. left_after output_left d later xs) (sym model) (sym written);
  }

-- all is played
pub record Ends (start here : search.Decoder Contents) (all : List search.Call) (answers : List (Result Answer Refusal)) (scratch₀ scratch : List ℤ) (output₀ output : List ℕ) : Type 0 where
  pub answers_of : answers ≡ answers_in (recorded ruled start all)
  pub decoder : here ≡ after ruled start all
  pub scratch-of : scratch ≡ left_after scratch_left start all scratch₀
  pub output-of : output ≡ left_after output_left start all output₀

pub remains-none :
    (start here : search.Decoder Contents) (all rest : List search.Call) (answers : List (Result Answer Refusal)) (scratch₀ scratch : List ℤ) (output₀ output : List ℕ)
    → Remains start here all rest answers scratch₀ scratch output₀ output → rest ≡ [] → Ends start here all answers scratch₀ scratch output₀ output
remains-none start here all rest answers scratch₀ scratch output₀ output r none = record {
  answers_of = sym (r.answers_of ∙ ap (λ cs. answers ++ answers_in (recorded ruled here cs)) none ∙ append-nil answers);
  decoder = sym (r.decoder ∙ ap (after ruled here) none);
  scratch-of = sym (r.scratch-of ∙ ap (λ cs. left_after scratch_left here cs scratch) none);
  output-of = sym (r.output-of ∙ ap (λ cs. left_after output_left here cs output) none);
}

pub next-call : (f : Call → search.Call) (calls : List Call) (i : ℕ) (c : Call) → i < length calls → c ≡ get_or calls i c → drop i (map f calls) ≡ f c ∷ drop (i + 1) (map f calls)
next-call f calls i c h e = drop-map f i calls ∙ ap (map f) (drop_more calls i c h) ∙ ap₂ (λ x cs. f x ∷ cs) (sym e) (sym (drop-map f (i + 1) calls))

pub no_call : (f : Call → search.Call) (calls : List Call) (i : ℕ) → length calls ≤ i → drop i (map f calls) ≡ []
no_call f calls i h = drop_all i (map f calls) (subst (λ n. n ≤ i) (sym (length-map calls f)) h)

pub same-call :
    {C : Type 0} (judge : Judge.Ghosts C) (check check' : C) (values : List ℤ) (scratch scratch' output output' : ℕ) (c : Call)
    → check ≡ check' → scratch ≡ scratch' → output ≡ output'
    → call_of judge check values scratch output c ≡ call_of judge check' values scratch' output' c
same-call judge check check' values scratch scratch' output output' c p q r =
    ap₂ (λ k w. call_of judge k values w output c) p q ∙ ap (λ o. call_of judge check' values scratch' o c) r

-- The promise

module _ {C : Type 0} (judge : Judge.Ghosts C) (check : C) (values : List ℤ) (scratch output : ℕ) (hopeful : Hopeful (meaning_of judge check)) where
  lawful-call : (c : Call) → LawfulCall (call_of judge check values scratch output c)
  lawful-call call.Report = tt
  lawful-call call.Strike = tt
  lawful-call (call.Load plan at count limits) = λ granted. block-is-lawful plan (λ k. get_or (take count (drop at values)) k (pos 0)) (meaning_of judge check) hopeful
  lawful-call (call.Advance budget words) = tt
  lawful-call (call.Word bytes) = tt

  lawful-calls : (k : ℕ) (calls : List Call) → LawfulCalls (take k (calls_of judge check values scratch output calls))
  lawful-calls zero calls = tt
  lawful-calls (suc k) [] = tt
  lawful-calls (suc k) (c ∷ cs) = (lawful-call c, lawful-calls k cs)

  pub keeps-promise : (s : Contents) (calls : List Call) → KeepsPromise (record { start = search.Blank s; calls = calls_of judge check values scratch output calls })
  keeps-promise s calls k = promise-kept ruled rules-make-a-store s (take k (calls_of judge check values scratch output calls)) (lawful-calls k calls)
