-- Values that agree on the sent bits are refused alike, and make the same soft values. Assumes nothing.
use Rattle.std.proofs.Common.{◌≡◌, ℕ, zero, suc, ◌<◌, Bool, cond, eqb, List, length, ℤ, pos, Some, None, Ok, Err, Result, sym, refl, ap, ◌∙◌, subst, arith}
use Rattle.std.proofs.lemmas.Bool.Decides.{nat_tests}
use Rattle.base.specs.declared.refusal.Refusal.{Refusal}
use Rattle.block.specs.Fields.{received_at, request_of}
use Rattle.code.specs.First.{first_below}
use Rattle.code.specs.Recovery.{total_below, value_at, share_of, unsent_soft, soft_at, beyond, bad_value, recovery_verdict, Recovers}
use Rattle.plan.specs.Plans.{MadeOf, Planned, block_length, sent_bits, place_of, sent_at, mode_in}
use Rattle.plan.specs.Requests.{verdict}
use Rattle.plan.specs.declared.plan.Plan.{Plan}
use Rattle.plan.specs.declared.request.Request.{Request}
use Rattle.block.specs.File.{file_fault}
use Rattle.block.specs.Reads.{FileIs}
use Rattle.block.specs.declared.reader.Block.{Block}
use Rattle.inspect.specs.Softs.{PlanOf, PlanRefused, values_verdict, values_of, SoftValues, Softens}

-- tests that agree below n find the same first number
pub first-same : (p q : ℕ → Bool) (n : ℕ) → ((k : ℕ) → k < n → p k ≡ q k) → first_below p n ≡ first_below q n
unfolding first_below
first-same p q zero h = refl
first-same p q (suc n) h =
    let before : first_below p n ≡ first_below q n = first-same p q n (λ k l. h k (omega arith)) in
    let here : p n ≡ q n = h n (omega arith) in
    cc

pub total-same : (f g : ℕ → ℤ) (n : ℕ) → ((k : ℕ) → k < n → f k ≡ g k) → total_below f n ≡ total_below g n
unfolding total_below
total-same f g zero h = refl
total-same f g (suc n) h =
    let before : total_below f n ≡ total_below g n = total-same f g n (λ k l. h k (omega arith)) in
    let here : f n ≡ g n = h n (omega arith) in
    cc

pub soft-same : (plan : Plan) (u v : ℕ → ℤ) → ((k : ℕ) → k < sent_bits plan → u k ≡ v k) → (i : ℕ) → soft_at plan u i ≡ soft_at plan v i
soft-same plan u v h i =
    ap (λ (z : ℤ). cond (sent_at plan i) z (unsent_soft (mode_in plan)))
    (total-same (share_of plan u i) (share_of plan v i) (sent_bits plan) (λ k l. ap (λ (z : ℤ). cond (eqb (place_of plan k) i) z (pos 0)) (h k l)))

-- of as many values as are sent, and room for every place, the verdict is that on the values
pub verdict-same : (plan : Plan) (body : List ℕ) (values : List ℤ) (room : ℕ) → length values ≡ sent_bits plan → room ≡ block_length plan
    → ((k : ℕ) → k < sent_bits plan → value_at values k ≡ received_at body k) → recovery_verdict plan values room ≡ values_verdict plan body
verdict-same plan body values room sent whole read =
    let counted : recovery_verdict plan values room ≡ bad_value (first_below (λ k. beyond (value_at values k)) (length values)) = grind (arith, nat_tests) in
    counted
    ∙ ap (λ (n : ℕ). bad_value (first_below (λ k. beyond (value_at values k)) n)) sent
    ∙ ap bad_value (first-same (λ k. beyond (value_at values k)) (λ k. beyond (received_at body k)) (sent_bits plan) (λ k l. ap beyond (read k l)))

-- what recovery does with values that were read out of a body, as a recovery from that body
pub softens : {X : Type 0} (plan : Plan) (body : List ℕ) (values before after : List ℤ) (r : Result X Refusal)
    → length values ≡ sent_bits plan → length before ≡ block_length plan
    → ((k : ℕ) → k < sent_bits plan → value_at values k ≡ received_at body k) → Recovers plan values before r after → Softens plan body r after
softens plan body values before after (Ok done) sent whole read is = (
  sym (verdict-same plan body values (length before) sent whole read) ∙ is.0,
  λ i l. is.1 i l ∙ soft-same plan (value_at values) (received_at body) read i,
)
softens plan body values before after (Err e) sent whole read is = sym (verdict-same plan body values (length before) sent whole read) ∙ is.0

-- a plan that was made of the numbers in a file is the plan of the file
pub plan-of : (input : List ℕ) (b : Block) (plan : Plan) (q : Request) (r : Result Plan Refusal)
    → (file_fault input ≡ None) × FileIs input b → r ≡ Ok plan → MadeOf q r → q ≡ request_of b.plan → PlanOf input plan
plan-of input b plan q r file is made same = record {
  granted = file.0;
  numbers = b.plan;
  holds = file.1.plan;
  planned = subst (λ (p : Request). Planned p plan) same (subst (MadeOf q) is made).1;
}

-- and a refusal to make one is a refusal of the plan of the file
pub refused-of : (input : List ℕ) (b : Block) (q : Request) (r : Result Plan Refusal) (e : Refusal)
    → (file_fault input ≡ None) × FileIs input b → r ≡ Err e → MadeOf q r → q ≡ request_of b.plan → PlanRefused input e
refused-of input b q r e file is made same = record {
  granted = file.0;
  numbers = b.plan;
  holds = file.1.plan;
  refused = subst (λ (p : Request). verdict p ≡ Some e) same (subst (MadeOf q) is made);
}

-- soft values from the body that was read are those of the file
pub softs-of : (plan : Plan) (input body : List ℕ) (llrs : List ℤ) → body ≡ values_of input → SoftValues plan body llrs
    → SoftValues plan (values_of input) llrs
softs-of plan input body llrs same softs = subst (λ (b : List ℕ). SoftValues plan b llrs) same softs

pub verdict-of : (plan : Plan) (input body : List ℕ) (e : Refusal) → body ≡ values_of input → values_verdict plan body ≡ Some e
    → values_verdict plan (values_of input) ≡ Some e
verdict-of plan input body e same refused = subst (λ (b : List ℕ). values_verdict plan b ≡ Some e) same refused
