-- Soft values that are no block's are beyond its limits. Assumes nothing.
use Rattle.std.proofs.Common.{◌≡◌, ℕ, ◌^◌, ◌<◌, ◌≤◌, true, false, List, length, ℤ, pos, Some, None, Ok, Err, Option, Result, MatchOption, IfErr, sym, ap, subst, arith}
use Rattle.std.specs.List.{position_or_len}
use Rattle.std.specs.Option.{unwrap_or}
use Rattle.std.specs.Result.{IsErrAnd}
use Rattle.std.proofs.lemmas.Bool.Decides.{nat_tests}
use Rattle.std.proofs.lemmas.List.Sums.{fails_before_first, passes_at_first}
use Rattle.base.specs.declared.refusal.Refusal.TheVariants.{Block}
use Rattle.block.specs.Fields.{received_at}
use Rattle.code.specs.Recovery.{soft_at, value_at}
use Rattle.cost.specs.Limits.{is_beyond, is_loadable, first_beyond}
use Rattle.plan.specs.Plans.{block_length}
use Rattle.plan.specs.declared.plan.Plan.{Plan}
use Rattle.ledger.specs.Softs.{IsFirstBeyond}

-- the place of the first that is beyond
at : List ℤ → ℕ
at llrs = position_or_len is_beyond llrs

module _ (plan : Plan) (body : List ℕ) (n : ℕ) (llrs : List ℤ) (small : n ≤ 10) (whole : length llrs ≡ 2 ^ n) (own : length llrs ≡ block_length plan)
    (softs : (i : ℕ) → i < block_length plan → value_at llrs i ≡ soft_at plan (received_at body) i) where
  short : is_loadable n llrs ≡ false → at llrs < length llrs
  unfolding at
  short h = grind (arith, nat_tests)

  place : is_loadable n llrs ≡ false → unwrap_or (first_beyond llrs) 0 ≡ at llrs
  unfolding at
  place h = grind (arith, nat_tests)

  pub first-beyond : is_loadable n llrs ≡ false → IsFirstBeyond plan body (Block (unwrap_or (first_beyond llrs) 0))
  unfolding at
  first-beyond h =
      let inside = short h in
      let there : at llrs < block_length plan = omega arith in
      record {
        at = at llrs;
        refusal = ap Block (place h);
        place = there;
        before = λ i l. subst (λ (v : ℤ). is_beyond v ≡ false) (softs i (omega arith)) (fails_before_first is_beyond llrs i (pos 0) l);
        beyond = subst (λ (v : ℤ). is_beyond v ≡ true) (softs (at llrs) there) (passes_at_first is_beyond llrs (pos 0) inside);
      }

-- an error that stands in where there is no value
pub stands-in : {A E : Type 0} (o : Option A) (r : Result A E) (Fails : Type 0) (Gives : A → Type 0) (P Q : E → Type 0)
    → MatchOption o Fails Gives → MatchOption o (IsErrAnd r P) (λ b. r ≡ Ok b) → (Fails → (e : E) → P e → Q e) → IfErr r Q
stands-in None (Ok b) Fails Gives P Q m is h = absurd is
stands-in None (Err e) Fails Gives P Q m is h = h m e is
stands-in {A = A} {E = E} (Some x) r Fails Gives P Q m is h = subst (λ (s : Result A E). IfErr s Q) (sym is) tt
