-- The encoder and clean words: every coded word is sent, every accepted word can be received clean, and finished payloads
-- are received. Assumes the laws of a check that finishes, where a lemma says so.
use Rattle.std.proofs.Common.{◌≡◌, ℕ, zero, suc, ◌+◌, ◌<◌, ◌≤◌, Bool, true, false, cond, not, ◌&&◌, eqb, ltb, leb, List, length, get_or, ℤ, pos, negsuc, Some, None, sym, refl, ap, ◌∙◌, subst, inl, inr, arith}
use Rattle.std.proofs.lemmas.List.{length-map}
use Rattle.std.proofs.lemmas.Int.{ints}
use Rattle.std.proofs.lemmas.Bool.{and_left, and_parts, and_right, cases_Bool, cond-true, eq-eqb, eqb-true, leb-true, not_from_true}
use Rattle.base.specs.Transform.{code_bit}
use Rattle.base.specs.declared.refusal.Refusal.TheVariants.{Payload, SentLength}
use Rattle.base.proofs.Transform.{code-bit-same}
use Rattle.code.specs.First.{first_below}
use Rattle.code.specs.Laying.{bad_byte, bits_of, fits_check, laid_at, laid_bit, laying_verdict, plan_of}
use Rattle.code.specs.Laws.{Clean, SpeaksFor}
use Rattle.code.specs.Recovery.{value_at}
use Rattle.code.specs.Sending.{bad_place, coded_at, is_shorten, sending_verdict, shortened_one}
use Rattle.code.proofs.First.{first_none}
use Rattle.code.proofs.Recovered.{placed-sent}
use Rattle.model.specs.Blocks.{Meaning}
use Rattle.plan.specs.Plans.{log_length, block_length, check_bits, payload_bits, word_bits, sent_bits, kind_at, place_of, sent_at}
use Rattle.plan.specs.declared.mode.Mode.{Mode}
use Rattle.plan.specs.declared.mode.Mode.TheVariants.{Repeat, Puncture, Shorten}
use Rattle.plan.specs.declared.plan.Plan.{Plan}
use Rattle.plan.proofs.Sent.{place_inside, plan-bounded}
use Rattle.clean.specs.Laws.{CodedWordsSent, EncodedPayloadsReceived, FinishedWordsReceived, WordsCanBeReceived}
use Rattle.clean.specs.Received.{code_of}
use Rattle.clean.proofs.Places.{shortened-zero}
use Rattle.clean.proofs.Words.{information-whole}

-- Sending

pub coded-sent : CodedWordsSent
coded-sent laid coded transforms =
    subst (λ (p : Plan). sending_verdict p (coded_at coded) (sent_bits p) ≡ None) (sym transforms.plan)
    (cond-true (eqb (sent_bits plan) (sent_bits plan)) (bad_place (first_below (shortened_one plan (coded_at coded)) (block_length plan))) (Some SentLength) (eq-eqb (sent_bits plan) (sent_bits plan) refl)
    ∙ ap bad_place (first_none (shortened_one plan (coded_at coded)) (block_length plan) (λ i h. go i h plan.mode refl)))
  where
    plan : Plan
    plan = plan_of laid

    go : (i : ℕ) → i < block_length (plan_of laid) → (m : Mode) → (plan_of laid).mode ≡ m → (is_shorten m && (not (sent_at (plan_of laid) i) && coded_at coded i)) ≡ false
    go i h Repeat e = refl
    go i h Puncture e = refl
    go i h Shorten e =
        elim (cases_Bool (sent_at (plan_of laid) i)) [
          | inl sent ↦ and_left (not (sent_at (plan_of laid) i)) (coded_at coded i) (not_from_true (sent_at (plan_of laid) i) sent)
          | inr unsent ↦ and_right (not (sent_at (plan_of laid) i)) (coded_at coded i) (transforms.bits i h ∙ shortened-zero (plan_of laid) (laid_at laid) laid.frozen e i h unsent)
        ]

pub can-be-received : WordsCanBeReceived
can-be-received plan check word whole accepted = record { whole = whole; accepted = accepted; clean = λ k h. speaks (code_of plan word (place_of plan k)); recovered = λ i h. refl }
  where
    speaks : (b : Bool) → SpeaksFor b (cond b (negsuc 0) (pos 1))
    speaks true = omega (arith, ints)
    speaks false = omega (arith, ints)

-- Finished payloads

pub finished-received : (check : Meaning) (L H : ℕ) (finished : List Bool → List Bool)
    → ((a : ℕ) (w : List Bool) → check.accepted a w ≡ true → (a ≤ H) × (length w ≡ a + L))
    → ((p : List Bool) → length p ≤ H → check.accepted (length p) (finished p) ≡ true)
    → ((p : List Bool) → length p ≤ H → check.carried (length p) (finished p) ≡ p)
    → FinishedWordsReceived check L H finished
finished-received check L H finished lengths accepts reads plan payload fits sized values llr clean recovered =
    let parts = and_parts (eqb (check_bits plan) L) (leb (payload_bits plan) H) fits in
    let bits : check_bits plan ≡ L = eqb-true (check_bits plan) L parts.0 in
    let short : length payload ≤ H = let h = leb-true (payload_bits plan) H parts.1 in omega arith in
    let accepted : check.accepted (payload_bits plan) (finished payload) ≡ true = subst (λ a. check.accepted a (finished payload) ≡ true) sized (accepts payload short) in
    let whole : length (finished payload) ≡ word_bits plan = let long = (lengths (payload_bits plan) (finished payload) accepted).1 in omega arith in
    record {
      received = record { whole = whole; accepted = accepted; clean = clean; recovered = recovered };
      read = ap (check.carried (payload_bits plan)) (information-whole plan (finished payload) whole llr check)
          ∙ subst (λ a. check.carried a (finished payload) ≡ payload) sized (reads payload short);
    }

-- only the code bits of the block are sent
same-clean : (plan : Plan) (code other : ℕ → Bool) (values : ℕ → ℤ) → ((i : ℕ) → i < block_length plan → code i ≡ other i) → Clean plan code values → Clean plan other values
same-clean plan code other values same clean k h =
    let inside : place_of plan k < block_length plan = subst (λ i. i < block_length plan) (sym (placed-sent plan k h)) (place_inside plan.mode plan.n plan.sent k plan.sized.0 (plan-bounded plan) h) in
    subst (λ b. SpeaksFor b (values k)) (same (place_of plan k) inside) (clean k h)

granted-fits : (plan : Plan) (L H : ℕ) (payload : List ℕ) → laying_verdict plan L H payload ≡ None → (fits_check plan L H && eqb (length payload) (payload_bits plan)) ≡ true
granted-fits plan L H payload e = go (fits_check plan L H && eqb (length payload) (payload_bits plan)) e
  where
    go : (t : Bool) → cond t (bad_byte (first_below (λ k. ltb 1 (get_or payload k 0)) (length payload))) (Some (Payload 0)) ≡ None → t ≡ true
    go true h = refl
    go false h = let z : ◌≡◌ {A = ℕ} 0 1 = cc in absurd (omega arith)

pub encoded-received : (check : Meaning) (L H : ℕ) (finished : List Bool → List Bool) → FinishedWordsReceived check L H finished → EncodedPayloadsReceived check L H finished
encoded-received check L H finished received payload fresh laid coded verdict filled transforms values llrs clean recovered =
    let plan = plan_of fresh in
    let word = finished (bits_of payload) in
    let fits = and_parts (fits_check plan L H) (eqb (length payload) (payload_bits plan)) (granted-fits plan L H payload verdict) in
    let sized : length (bits_of payload) ≡ payload_bits plan = length-map payload (λ b. eqb b 1) ∙ eqb-true (length payload) (payload_bits plan) fits.1 in
    let same : (i : ℕ) → i < block_length plan → coded_at coded i ≡ code_of plan word i =
    λ i h. transforms.bits i (subst (λ (p : Plan). i < block_length p) (sym filled.plan) h)
    ∙ ap (λ (p : Plan). code_bit (log_length p) (laid_at laid) i) filled.plan
    ∙ code-bit-same (log_length plan) (laid_at laid) (laid_bit (kind_at plan) word) i (λ j l. filled.bits j) in
    received plan (bits_of payload) fits.0 sized (value_at values) (value_at llrs) (same-clean plan (coded_at coded) (code_of plan word) (value_at values) same clean) recovered
