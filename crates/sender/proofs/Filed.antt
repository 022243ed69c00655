-- The file of a request is laid out, granted, and read as its sent bits arrive. Assumes nothing.
use Rattle.std.proofs.Common.{◌≡◌, ℕ, ◌≤◌, Bool, List, [], ◌++◌, length, get_or, None, vec_items, sym, ap, ◌∙◌, subst, arith}
use Rattle.std.proofs.lemmas.List.{append_assoc}
use Rattle.block.specs.File.{file_fault}
use Rattle.block.specs.Layout.{written}
use Rattle.plan.specs.Plans.{sent_bits, place_of}
use Rattle.plan.specs.declared.plan.Plan.{Plan}
use Rattle.sender.specs.Arrivals.{value_of, turned, arriving}
use Rattle.sender.specs.Files.{FileIs}
use Rattle.sender.specs.Images.{plan_body, search_body, values_body, image_of}
use Rattle.sender.specs.Sends.{PlanIs, Sent, code_of}
use Rattle.sender.specs.declared.request.Request.{Request}
use Rattle.sender.proofs.Granted.{image-granted}
use Rattle.sender.proofs.Received.{received-values, byte-back}

fields-joined : (p s v f₀ f₁ f₂ f₃ : List ℕ) → f₀ ≡ [] → f₁ ≡ f₀ ++ written 1 p → f₂ ≡ f₁ ++ written 2 s → f₃ ≡ f₂ ++ written 3 v
    → f₃ ≡ written 1 p ++ (written 2 s ++ written 3 v)
fields-joined p s v f₀ f₁ f₂ f₃ e₀ e₁ e₂ e₃ =
    e₃
    ∙ ap (λ (xs : List ℕ). xs ++ written 3 v) (e₂ ∙ ap (λ (xs : List ℕ). xs ++ written 2 s) (e₁ ∙ ap (λ (xs : List ℕ). xs ++ written 1 p) e₀))
    ∙ append_assoc (written 1 p) (written 2 s) (written 3 v)

-- three fields written one after the other are the file
pub image-is : (request : Request) (bits p s v f₀ f₁ f₂ f₃ : List ℕ)
    → p ≡ plan_body request.plan → s ≡ search_body request.«search» → v ≡ values_body request bits
    → f₀ ≡ [] → f₁ ≡ f₀ ++ written 1 p → f₂ ≡ f₁ ++ written 2 s → f₃ ≡ f₂ ++ written 3 v → f₃ ≡ image_of request bits
image-is request bits p s v f₀ f₁ f₂ f₃ ep es ev e₀ e₁ e₂ e₃ =
    fields-joined p s v f₀ f₁ f₂ f₃ e₀ e₁ e₂ e₃
    ∙ ap (λ (xs : List ℕ). written 1 xs ++ (written 2 s ++ written 3 v)) ep
    ∙ ap (λ (xs : List ℕ). written 1 (plan_body request.plan) ++ (written 2 xs ++ written 3 v)) es
    ∙ ap (λ (xs : List ℕ). written 1 (plan_body request.plan) ++ (written 2 (search_body request.«search») ++ written 3 xs)) ev

-- no plan sends more than 8,192 bits
pub sent-few : (plan : Plan) (request : Request) (bits : List ℕ) → Sent plan request bits → length bits ≤ 8192
sent-few plan request bits sent = let most = plan.aired.1 in let count = sent.count in omega arith

pub file-is : (plan : Plan) (request : Request) (bits file : List ℕ) → PlanIs request plan → Sent plan request bits
    → file ≡ image_of request bits → FileIs request file
file-is plan request bits file planned sent whole =
    let own : sent_bits plan ≡ request.plan.sent = planned.planned.sent in
    let few = sent-few plan request bits sent in
    let count : length bits ≡ request.plan.sent = sent.count ∙ own in
    record {
      plan = plan;
      bits = bits;
      planned = planned;
      sent = sent;
      image = whole;
      granted = subst (λ (xs : List ℕ). file_fault xs ≡ None) (sym whole) (image-granted request bits count (omega arith));
      arrives = λ k l.
          received-values request.magnitude (arriving (vec_items request.flips) bits) (length bits) k request.above request.within
          (let size = sent.count in omega arith)
          ∙ ap (λ (b : Bool). value_of request.magnitude (turned (vec_items request.flips) k b))
          (byte-back (get_or bits k 0) (code_of plan request (place_of plan k)) (sent.bits k l));
    }
