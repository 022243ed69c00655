-- That the path of a word received clean is admissible, costs nothing and stands apart. Assumes nothing.
use Rattle.std.proofs.Common.{◌≡◌, ℕ, zero, suc, ◌+◌, ◌-◌, ◌%◌, ◌<◌, ◌≤◌, Bool, true, false, cond, not, ◌&&◌, eqb, leb, List, [], ◌∷◌, ◌++◌, length, get_or, take, ℤ, sym, refl, ap, ◌∙◌, subst, ap₂, arith, length-append}
use mathlib.Core.Bool.{beq}
use Rattle.std.proofs.lemmas.List.{append-nil, ext_get_or, get_or_append_left, get_or_at, take_all, take_more}
use Rattle.std.proofs.lemmas.Bool.{and_from, le-leb, not_from_false, not-true}
use Rattle.base.specs.Counts.{all_below, count_below}
use Rattle.base.proofs.Counts.{all_from, count-suc}
use Rattle.base.proofs.Transform.{xor-below-same}
use Rattle.code.specs.Laying.{word_bit_at, bit_of_kind, laid_bit}
use Rattle.code.specs.Lawful.{parity_sum}
use Rattle.code.proofs.Positions.{Fit, laid-fit, count-grows}
use Rattle.cost.specs.Laws as cost
use Rattle.cost.specs.Path.{decision, cost}
use Rattle.cost.specs.Values.{contradicts}
use Rattle.cost.proofs.Clean.{costs-nothing, wrong-bit-costs}
use Rattle.model.specs.Blocks.{Meaning, kind_of, kinds_of, path_cost, block_of}
use Rattle.model.specs.Reading.{first_bits}
use Rattle.model.proofs.Blocks.{same_kind}
use Rattle.model.proofs.Children.{first-length, first-at, cost-first, cost-child, information-first}
use Rattle.plan.specs.Kinds.{is_information}
use Rattle.plan.specs.Plans.{log_length, block_length, payload_bits, word_bits, kind_at}
use Rattle.plan.specs.declared.kind.Kind.{Kind}
use Rattle.plan.specs.declared.kind.Kind.TheVariants.{Frozen, Information, Parity}
use Rattle.plan.specs.declared.plan.Plan.{Plan}
use Rattle.search.specs.Paths as search
use Rattle.search.proofs.Lawful.{goes_on}
use Rattle.clean.specs.Laws.{ReceivedWordStandsApart}
use Rattle.clean.specs.Received.{path_of, code_of, ReceivedClean}
use Rattle.clean.proofs.Places.{soft-silent, soft-closed, information-heard}

beq-self : (b : Bool) → beq b b ≡ true
beq-self true = refl
beq-self false = refl

module _ (plan : Plan) (word : List Bool) where
  abbrev laid : ℕ → Bool
  laid = laid_bit (kind_at plan) word

  -- Lawful

  fit : Fit (kind_at plan) (block_length plan) laid
  fit = laid-fit (kind_at plan) (block_length plan) word laid plan.beyond (λ j. refl)

  parity-laid : (i : ℕ) → i < block_length plan → search.parity_bit (kinds_of plan) (path_of plan word) i ≡ parity_sum (kind_at plan) laid i
  parity-laid i hi = xor-below-same _ _ i (λ j h. ap₂ (λ s b. s && (eqb (j % 5) (i % 5) && b)) (same_kind (kind_at plan j)) (first-at laid (block_length plan) j (omega arith)))

  obeys-laid : (i : ℕ) → i < block_length plan → search.obeys (kinds_of plan) (path_of plan word) i ≡ true
  obeys-laid i hi = ap₂ (search.fitting (kinds_of plan i)) (parity-laid i hi) (first-at laid (block_length plan) i hi) ∙ go (kind_at plan i) refl
    where
      go : (k : Kind) → kind_at plan i ≡ k → search.fitting (kind_of k) (parity_sum (kind_at plan) laid i) (laid i) ≡ true
      go Frozen e = not_from_false (laid i) (fit.frozen i hi e)
      go Information e = refl
      go Parity e = ap (λ b. beq b (parity_sum (kind_at plan) laid i)) (fit.parity i hi e) ∙ beq-self (parity_sum (kind_at plan) laid i)

  lawful-laid : (llr : ℕ → ℤ) (check : Meaning) → search.lawful (block_of plan llr check) (path_of plan word) ≡ true
  lawful-laid llr check =
      let long = first-length laid (block_length plan) in
      and_from (leb (length (path_of plan word)) (block_length plan)) (all_below (search.obeys (kinds_of plan) (path_of plan word)) (length (path_of plan word)))
      (le-leb (length (path_of plan word)) (block_length plan) (omega arith))
      (subst (λ k. all_below (search.obeys (kinds_of plan) (path_of plan word)) k ≡ true) (sym long) (all_from (search.obeys (kinds_of plan) (path_of plan word)) (block_length plan) obeys-laid))

  -- Information bits

  module _ (whole : length word ≡ word_bits plan) where
    abbrev placed : ℕ → ℕ
    placed m = count_below (λ j. is_information (kind_at plan j)) m

    room : (m : ℕ) → m < block_length plan → is_information (kind_at plan m) ≡ true → placed m < length word
    room m h here =
        let one : placed (suc m) ≡ placed m + 1 = count-suc (λ j. is_information (kind_at plan j)) m ∙ ap (λ b. placed m + cond b 1 0) here in
        let e : suc m + (block_length plan - suc m) ≡ block_length plan = omega arith in
        let grows : placed (suc m) ≤ placed (block_length plan) = subst (λ k. placed (suc m) ≤ placed k) e (count-grows (λ j. is_information (kind_at plan j)) (suc m) (block_length plan - suc m)) in
        let all = plan.informed in
        omega arith

    information-next : (m : ℕ) → m < block_length plan → (k : Kind) → kind_at plan m ≡ k → (sum : Bool) → take (placed m) word ++ cond (search.is_information (kind_of k)) (bit_of_kind k (word_bit_at (kind_at plan) word m) sum ∷ []) [] ≡ take (placed m + cond (is_information k) 1 0) word
    information-next m h Frozen e sum = append-nil (take (placed m) word) ∙ ap (λ k. take k word) (omega arith)
    information-next m h Information e sum = sym (take_more word (placed m) false (room m h (ap is_information e)))
    information-next m h Parity e sum = append-nil (take (placed m) word) ∙ ap (λ k. take k word) (omega arith)

    information-laid : (m : ℕ) → m ≤ block_length plan → search.information_from (kinds_of plan) 0 (first_bits laid m) ≡ take (placed m) word
    unfolding first_bits count_below
    information-laid zero h = refl
    information-laid (suc m) h =
        information-first (kinds_of plan) laid m
        ∙ ap (λ bits. bits ++ cond (search.is_information (kinds_of plan m)) (laid m ∷ []) []) (information-laid m (omega arith))
        ∙ information-next m (omega arith) (kind_at plan m) refl (parity_sum (kind_at plan) (word_bit_at (kind_at plan) word) m)

    pub information-whole : (llr : ℕ → ℤ) (check : Meaning) → search.information_bits (block_of plan llr check) (path_of plan word) ≡ word
    information-whole llr check =
        information-laid (block_length plan) (omega arith) ∙ ap (λ k. take k word) plan.informed
        ∙ take_all (word_bits plan) word (omega arith)

-- The only kind that leaves a choice

chosen : (k : Kind) (sum u v : Bool) → search.fitting (kind_of k) sum u ≡ true → search.fitting (kind_of k) sum v ≡ true → (v ≡ u → ⊥) → k ≡ Information
chosen Frozen sum u v a b differs = absurd (differs (not-true v b ∙ sym (not-true u a)))
chosen Information sum u v a b differs = refl
chosen Parity sum u v a b differs = absurd (differs (is v sum b ∙ sym (is u sum a)))
  where
    is : (x y : Bool) → beq x y ≡ true → x ≡ y
    is true true e = refl
    is true false e = sym e
    is false true e = e
    is false false e = refl

turned : (u v : Bool) → (v ≡ u → ⊥) → v ≡ not u
turned true true d = absurd (d refl)
turned true false d = refl
turned false true d = refl
turned false false d = absurd (d refl)

module _ (plan : Plan) (check : Meaning) (word : List Bool) (values llr : ℕ → ℤ) (received : ReceivedClean plan check word values llr) where
  silent : cost.Clean (log_length plan) llr (laid plan word)
  silent i h = ap (λ v. contradicts v (code_of plan word i)) (received.recovered i h) ∙ soft-silent plan word values received.clean i h

  closed : cost.ZerosClosed (log_length plan) llr
  closed i j hi hj sub z = received.recovered i hi ∙ soft-closed plan word values received.clean i j hi hj sub (sym (received.recovered j hj) ∙ z)

  leaving-costs : (p : List Bool) (u : Bool) (r : List Bool) → path_of plan word ≡ p ++ (u ∷ r) → (v : Bool) → (v ≡ u → ⊥) → search.lawful (block_of plan llr check) (search.child p v) ≡ true → 0 < path_cost (log_length plan) llr (search.child p v)
  leaving-costs p u r split v differs good = subst (λ c. 0 < c) (sym paid) (omega (arith, dear))
    where
      inside : length p < block_length plan
      inside =
          let long = first-length (laid plan word) (block_length plan) in
          let parts = ap length split ∙ length-append p (u ∷ r) in
          omega arith

      same : (k : ℕ) → k < block_length plan → get_or (p ++ (u ∷ r)) k false ≡ laid plan word k
      same k h = ap (λ w. get_or w k false) (sym split) ∙ first-at (laid plan word) (block_length plan) k h

      begins : p ≡ first_bits (laid plan word) (length p)
      begins = ext_get_or false p (first_bits (laid plan word) (length p)) (sym (first-length (laid plan word) (length p))) (λ k h. sym (get_or_append_left p (u ∷ r) false k h) ∙ same k (let l = inside in omega arith) ∙ sym (first-at (laid plan word) (length p) k h))

      bit : u ≡ laid plan word (length p)
      bit = sym (get_or_at p u r false (length p) refl) ∙ same (length p) inside

      kind : kind_at plan (length p) ≡ Information
      kind = chosen (kind_at plan (length p)) (search.parity_bit (kinds_of plan) p (length p)) u v
          (goes_on (block_of plan llr check) p u r (subst (λ w. search.lawful (block_of plan llr check) w ≡ true) split (lawful-laid plan word llr check)))
          (goes_on (block_of plan llr check) p v [] good) differs

      paid : path_cost (log_length plan) llr (search.child p v) ≡ cost (log_length plan) llr (laid plan word) (length p) + contradicts (decision (log_length plan) llr (laid plan word) (length p)) v
      paid = ap (λ w. path_cost (log_length plan) llr (search.child w v)) begins ∙ cost-child (log_length plan) llr (laid plan word) (length p) v

      dear : 0 < contradicts (decision (log_length plan) llr (laid plan word) (length p)) v
      dear = subst (λ b. 0 < contradicts (decision (log_length plan) llr (laid plan word) (length p)) b) (sym (turned u v differs ∙ ap not bit))
          (wrong-bit-costs (log_length plan) llr (laid plan word) silent closed (length p) inside (λ z. information-heard plan word values received.clean (length p) kind (sym (received.recovered (length p) inside) ∙ z)))

pub stands-apart : ReceivedWordStandsApart
stands-apart plan check word values llr received = record {
  admissible = record {
    whole = first-length (laid plan word) (block_length plan);
    lawful = lawful-laid plan word llr check;
    accepted = ap (check.accepted (payload_bits plan)) (information-whole plan word received.whole llr check) ∙ received.accepted;
  };
  free = cost-first (log_length plan) llr (laid plan word) (block_length plan) ∙ costs-nothing (log_length plan) llr (laid plan word) (silent plan check word values llr received) (block_length plan) (omega arith);
  apart = leaving-costs plan check word values llr received;
}
