-- That a plan, soft values and a check make a lawful block, and what its words cost. Assumes nothing.
use Rattle.std.proofs.Common.{◌≡◌, ℕ, ◌≤◌, Bool, false, List, [], ◌∷◌, ◌++◌, length, ℤ, sym, refl, ap, ◌∙◌, subst, arith}
use Rattle.std.proofs.lemmas.List.{get_or_append_left, take_at}
use Rattle.base.specs.Counts.{sum_below}
use Rattle.base.proofs.Counts.{count_same}
use Rattle.cost.specs.Path.{cost}
use Rattle.cost.proofs.Path.{never-falls, cost-looks-back, whole-path}
use Rattle.plan.specs.declared.kind.Kind.{Kind}
use Rattle.plan.specs.declared.kind.Kind.TheVariants.{Frozen, Information, Parity}
use Rattle.plan.specs.Plans.{log_length, block_length, payload_bits, kind_at}
use Rattle.plan.specs.Kinds as kinds
use Rattle.search.specs.Paths.{child, is_information}
use Rattle.search.proofs.Lawful.{length-child}
use Rattle.model.specs.Blocks.{kind_of, bits_of, path_cost}
use Rattle.model.specs.Laws.{BlockIsLawful, WordCostsContradictions, WordsJudgedWhole}

pub path-start : (n : ℕ) (llr : ℕ → ℤ) → path_cost n llr [] ≡ 0
unfolding sum_below
path-start n llr = refl

path-rises : (n : ℕ) (llr : ℕ → ℤ) (path : List Bool) (u : Bool) → path_cost n llr path ≤ path_cost n llr (child path u)
path-rises n llr path u =
    let long = length-child path u in
    let same = cost-looks-back n llr (bits_of path) (bits_of (child path u)) (length path) (λ k h. sym (get_or_append_left path (u ∷ []) false k h)) in
    let more = never-falls n llr (bits_of (child path u)) (length path) (length (child path u)) (omega arith) in
    subst (λ x. x ≤ path_cost n llr (child path u)) (sym same) more

pub block-is-lawful : BlockIsLawful
block-is-lawful plan llr check hopeful = record {
  start = path-start (log_length plan) llr;
  rises = λ path u h. path-rises (log_length plan) llr path u;
  hopes = λ beginning rest h yes. ap (check.hopeless (payload_bits plan)) (sym (take_at beginning rest (length beginning) refl)) ∙ hopeful (payload_bits plan) (beginning ++ rest) yes (length beginning);
}

pub word-costs : WordCostsContradictions
word-costs plan llr check word whole =
    ap (cost (log_length plan) llr (bits_of word)) whole ∙ whole-path (log_length plan) llr (bits_of word)

pub same_kind : (k : Kind) → is_information (kind_of k) ≡ kinds.is_information k
same_kind Frozen = refl
same_kind Information = refl
same_kind Parity = refl

pub judged-whole : WordsJudgedWhole
judged-whole plan llr check =
    count_same (λ i. is_information (kind_of (kind_at plan i))) (λ i. kinds.is_information (kind_at plan i)) (block_length plan) (λ k h. same_kind (kind_at plan k))
    ∙ plan.informed
