-- From a laid word to its code and its sent bits, and why each refusal is one of the request. Assumes nothing.
use Rattle.std.proofs.Common.{◌≡◌, ℕ, zero, suc, ◌+◌, ◌^◌, ◌<◌, ◌≤◌, Bool, cond, List, map, length, Some, None, Err, vec_items, sym, refl, ap, ◌∙◌, subst, inl, inr, arith}
use Rattle.std.proofs.lemmas.Bool.{lt-ltb}
use Rattle.std.proofs.lemmas.Bool.Decides.{nat_tests}
use Rattle.std.specs.List.{range_with_len}
use Rattle.base.proofs.Transform.{code-bit-same}
use Rattle.base.specs.declared.refusal.Refusal.{Refusal}
use Rattle.block.specs.Checks.{finished_by}
use Rattle.block.specs.Codes.{longest_payload}
use Rattle.code.specs.Laying.{plan_of, laid_at, Fresh, Filled}
use Rattle.code.specs.Sending.{coded_plan, coded_at, byte_of, Transforms, SentBits, sending_verdict}
use Rattle.code.specs.declared.coded.Coded.{Coded}
use Rattle.code.specs.declared.laid.Laid.{Laid}
use Rattle.plan.proofs.Sent.{plan-bounded, place_inside}
use Rattle.plan.specs.Order.{sent_place}
use Rattle.plan.specs.Plans.{log_length, block_length, sent_bits, place_of}
use Rattle.plan.specs.declared.plan.Plan.{Plan}
use Rattle.sender.specs.Sends.{laid_of, payload_verdict, PlanIs, LaidIs, CodeIs, Sent, SentFor, RefusedWith, FailsWith}
use Rattle.sender.specs.declared.failure.Failure.{Failure}
use Rattle.sender.specs.declared.failure.Failure.TheVariants.{Refused, Memory}
use Rattle.sender.specs.declared.request.Request.{Request}

-- a payload that is laid is no longer than its check takes
pub payload-taken : (plan : Plan) (request : Request) → payload_verdict plan request ≡ None
    → length (vec_items request.payload) ≤ longest_payload request.plan.check
payload-taken plan request granted = grind (arith, nat_tests)

-- a fresh word, filled, is the laid word of its request
pub laid-is : (plan : Plan) (request : Request) (fresh word : Laid) → Fresh plan fresh
    → payload_verdict (plan_of fresh) request ≡ None → Filled (finished_by request.plan.check) (vec_items request.payload) fresh word
    → LaidIs plan request word
laid-is plan request fresh word own granted filled = record {
  granted = subst (λ (p : Plan). payload_verdict p request ≡ None) own.plan granted;
  plan = filled.plan ∙ own.plan;
  bits = subst (λ (p : Plan). (i : ℕ) → laid_at word i ≡ laid_of p request i) own.plan filled.bits;
}

pub laid-list : (plan : Plan) (request : Request) (word : Laid) (n : ℕ) → LaidIs plan request word
    → (a : ℕ) → map (laid_at word) (range_with_len a n) ≡ map (laid_of plan request) (range_with_len a n)
laid-list plan request word zero is a = refl
laid-list plan request word (suc n) is a = cc (is.bits a, laid-list plan request word n is (a + 1))

code-own : (request : Request) (word : Laid) (code : Coded) → LaidIs (plan_of word) request word → Transforms word code
    → CodeIs (plan_of word) request code
code-own request word code is turned = record {
  plan = turned.plan;
  bits = λ i l. turned.bits i l
      ∙ code-bit-same (log_length (plan_of word)) (laid_at word) (laid_of (plan_of word) request) i (λ j _. is.bits j);
}

-- the transform of the laid word of a request is its code
pub code_is : (plan : Plan) (request : Request) (word : Laid) (code : Coded) → LaidIs plan request word → Transforms word code
    → CodeIs plan request code
code_is plan request word code is turned =
    subst (λ (p : Plan). CodeIs p request code) is.plan
    (code-own request word code (subst (λ (p : Plan). LaidIs p request word) (sym is.plan) is) turned)

pub place-within : (plan : Plan) (k : ℕ) → k < sent_bits plan → place_of plan k < block_length plan
place-within plan k l =
    subst (λ (b : Bool). cond b (sent_place plan.mode plan.n plan.sent k) 0 < 2 ^ plan.n) (sym (lt-ltb k plan.sent l))
    (place_inside plan.mode plan.n plan.sent k plan.sized.0 (plan-bounded plan) l)

-- what is written of a code is what its request sends
pub sent_is : (plan : Plan) (request : Request) (code : Coded) (bits : List ℕ) → CodeIs plan request code
    → (length bits ≡ sent_bits plan) × SentBits (coded_plan code) (coded_at code) bits → Sent plan request bits
sent_is plan request code bits is written =
    let own : SentBits plan (coded_at code) bits = subst (λ (p : Plan). SentBits p (coded_at code) bits) is.plan written.1 in
    record {
      count = written.0;
      bits = λ k l. own k l ∙ ap byte_of (is.bits (place_of plan k) (place-within plan k l));
    }

pub payload-refused : (plan : Plan) (request : Request) (e : Refusal) → PlanIs request plan → payload_verdict plan request ≡ Some e
    → RefusedWith request e
payload-refused plan request e planned refused = inr (inl (record { plan = plan; planned = planned; refused = refused }))

pub code-refused : (plan : Plan) (request : Request) (code : Coded) (e : Refusal) → PlanIs request plan → CodeIs plan request code
    → sending_verdict (coded_plan code) (coded_at code) (sent_bits plan) ≡ Some e → RefusedWith request e
code-refused plan request code e planned is refused =
    inr (inr (record {
      plan = plan;
      code = code;
      planned = planned;
      coded = is;
      refused = subst (λ (p : Plan). sending_verdict p (coded_at code) (sent_bits plan) ≡ Some e) is.plan refused;
    }))

pub code-fails : (plan : Plan) (request : Request) (code : Coded) (failure : Failure) → PlanIs request plan → CodeIs plan request code
    → SentFor plan code (Err failure) → FailsWith request failure
code-fails plan request code (Refused e) planned is refused = code-refused plan request code e planned is refused
code-fails plan request code Memory planned is refused = tt
