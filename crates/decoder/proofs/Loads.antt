-- Which loads are granted, and what a store keeps right after one. Assumes nothing.
use Rattle.std.proofs.Common.{◌≡◌, ℕ, ◌^◌, Bool, true, false, ◌&&◌, eqb, List, length, get_or, ℤ, pos, Result, Ok, Err, MatchOption, Option, Some, None, refl, sym, ap, ◌∙◌, subst, ap₂}
use mathlib.Core.Path.{fun_ext}
use Rattle.std.proofs.lemmas.Bool.{and_parts, both_ways, cond-true, cond-false, le-leb}
use Rattle.std.specs.Option.{is_none, unwrap_or}
use Rattle.std.specs.Result.{IsErrAnd}
use Rattle.base.specs.declared.refusal.Refusal.{Refusal}
use Rattle.base.specs.declared.refusal.Refusal.TheVariants as refusal
use Rattle.cost.specs.Limits.{is_loadable, first_beyond}
use Rattle.outer.specs.declared.check.Judge as Judge
use Rattle.plan.specs.declared.plan.Plan.{Plan}
use Rattle.plan.specs.Plans.{log_length, block_length}
use Rattle.search.specs.Search.{value_refusal, load_refusal}
use Rattle.model.specs.Blocks.{Meaning, meaning_of, block_of}
use Rattle.decoder.specs.declared.limits.Limits.{Limits}
use Rattle.decoder.specs.Limits.{limits_allowed}
use Rattle.decoder.specs.Answers.{Examined, fits_check, request_of}
use Rattle.decoder.specs.Blocks.{plan_in, llr_in}
use Rattle.decoder.specs.declared.block.Block.{Block}

some-refused : (bad : Option ℕ) → is_none bad ≡ false → value_refusal bad ≡ Some (refusal.Block (unwrap_or bad 0))
some-refused (Some at) isnt = refl
some-refused None isnt = absurd (both_ways true isnt refl)

none-refused : (bad : Option ℕ) → is_none bad ≡ true → value_refusal bad ≡ None
none-refused None is = refl
none-refused (Some at) is = absurd (both_ways false refl is)

same_block : (plan plan' : Plan) (llr llr' : ℕ → ℤ) (check : Meaning) → plan ≡ plan' → ((k : ℕ) → llr k ≡ llr' k) → block_of plan llr check ≡ block_of plan' llr' check
same_block plan plan' llr llr' check p q = ap₂ (λ x y. block_of x y check) p (fun_ext q)

module _ {C : Type 0} (judge : Judge.Ghosts C) (check : C) (plan : Plan) (llrs : List ℤ) (limits : Limits) where
  abbrev apart : Bool
  apart = (fits_check (judge.bits check) (judge.longest check) plan && eqb (length llrs) (block_length plan)) && limits_allowed limits

  pub refused-apart : apart ≡ false → load_refusal (request_of judge check plan llrs limits) ≡ Some (refusal.Block 0)
  refused-apart e = cond-false apart (value_refusal (first_beyond llrs)) (Some (refusal.Block 0)) e

  values : apart ≡ true → load_refusal (request_of judge check plan llrs limits) ≡ value_refusal (first_beyond llrs)
  values e = cond-true apart (value_refusal (first_beyond llrs)) (Some (refusal.Block 0)) e

  counted : apart ≡ true → eqb (length llrs) (block_length plan) ≡ true
  counted e = (and_parts (fits_check (judge.bits check) (judge.longest check) plan) (eqb (length llrs) (block_length plan)) (and_parts (fits_check (judge.bits check) (judge.longest check) plan && eqb (length llrs) (block_length plan)) (limits_allowed limits) e).0).1

  allowed_then : apart ≡ true → limits_allowed limits ≡ true
  allowed_then e = (and_parts (fits_check (judge.bits check) (judge.longest check) plan && eqb (length llrs) (block_length plan)) (limits_allowed limits) e).1

  loadable-is : apart ≡ true → is_loadable (log_length plan) llrs ≡ is_none (first_beyond llrs)
  loadable-is e =
      ap (λ t. t && (eqb (length llrs) (2 ^ log_length plan) && is_none (first_beyond llrs))) (le-leb (log_length plan) 10 plan.sized.1)
      ∙ ap (λ t. t && is_none (first_beyond llrs)) (counted e)

  refused-value : apart ≡ true → is_loadable (log_length plan) llrs ≡ false → load_refusal (request_of judge check plan llrs limits) ≡ Some (refusal.Block (unwrap_or (first_beyond llrs) 0))
  refused-value e isnt = values e ∙ some-refused (first_beyond llrs) (sym (loadable-is e) ∙ isnt)

  granted : apart ≡ true → is_loadable (log_length plan) llrs ≡ true → load_refusal (request_of judge check plan llrs limits) ≡ None
  granted e is = values e ∙ none-refused (first_beyond llrs) (sym (loadable-is e) ∙ is)

  -- what is made of the block that was tried, where a refusal says what P says
  pub examined : (tried : Option Block) (r : Result Block Refusal) (P : Refusal → Type 0) → apart ≡ true
      → MatchOption tried (is_loadable (log_length plan) llrs ≡ false) (λ b. (is_loadable (log_length plan) llrs ≡ true) × (plan_in b ≡ plan) × ((k : ℕ) → llr_in b k ≡ get_or llrs k (pos 0)))
      → MatchOption tried (IsErrAnd r P) (λ b. r ≡ Ok b)
      → ((e : Refusal) → P e → e ≡ refusal.Block (unwrap_or (first_beyond llrs) 0))
      → Examined (request_of judge check plan llrs limits) (meaning_of judge check) limits r
  examined None (Ok b) P e isnt is said = absurd is
  examined None (Err why) P e isnt is said = refused-value e isnt ∙ ap Some (sym (said why is))
  examined (Some b) r P e (loadable, plan', llr') is said =
      subst (Examined (request_of judge check plan llrs limits) (meaning_of judge check) limits) (sym is)
      (granted e loadable, same_block _ _ _ _ (meaning_of judge check) plan' llr', allowed_then e)
