-- The bits of a path at information positions, one position at a time, and the parity sum. Assumes nothing.
use Rattle.std.proofs.Common.{◌≡◌, ℕ, suc, ◌+◌, ◌%◌, ◌<◌, Bool, true, false, cond, ◌&&◌, eqb, List, [], ◌∷◌, ◌++◌, length, take, set, sym, ap, ◌∙◌, ap₂, arith}
use Rattle.std.proofs.lemmas.List.{append-nil, take_more_set}
use Rattle.base.proofs.Transform.{xor-below-same}
use Rattle.code.specs.Lawful.{parity_sum}
use Rattle.plan.specs.declared.plan.Plan.{Plan}
use Rattle.plan.specs.Plans.{kind_at}
use Rattle.search.specs.Paths.{Kind, is_information, information_from, parity_bit}
use Rattle.model.specs.Blocks.{kinds_of}
use Rattle.model.specs.Reading.{first_bits}
use Rattle.model.proofs.Blocks.{same_kind}
use Rattle.model.proofs.Children.{information-first, parity-first}

-- the information bits of the first i bits stand in front

pub gather-more : (kinds : ℕ → Kind) (u : ℕ → Bool) (i n : ℕ) (word : List Bool) (b : Bool) → n < length word → is_information (kinds i) ≡ true → b ≡ u i → take n word ≡ information_from kinds 0 (first_bits u i) → take (n + 1) (set word n b) ≡ information_from kinds 0 (first_bits u (i + 1))
gather-more kinds u i n word b h is e inv =
    let next : i + 1 ≡ suc i = omega arith in
    take_more_set word n b h ∙ ap₂ (λ xs x. xs ++ (x ∷ [])) inv e
    ∙ sym (information-first kinds u i ∙ ap (λ t. information_from kinds 0 (first_bits u i) ++ cond t (u i ∷ []) []) is)
    ∙ ap (λ k. information_from kinds 0 (first_bits u k)) (sym next)

pub gather-on : (kinds : ℕ → Kind) (u : ℕ → Bool) (i : ℕ) (front : List Bool) → is_information (kinds i) ≡ false → front ≡ information_from kinds 0 (first_bits u i) → front ≡ information_from kinds 0 (first_bits u (i + 1))
gather-on kinds u i front isnt inv =
    let next : i + 1 ≡ suc i = omega arith in
    inv ∙ sym (information-first kinds u i ∙ ap (λ t. information_from kinds 0 (first_bits u i) ++ cond t (u i ∷ []) []) isnt ∙ append-nil _)
    ∙ ap (λ k. information_from kinds 0 (first_bits u k)) (sym next)

-- the encoder's parity sum, over kinds and paths as the search reads them
pub parity-read : (plan : Plan) (u : ℕ → Bool) (i : ℕ) → parity_sum (kind_at plan) u i ≡ parity_bit (kinds_of plan) (first_bits u i) i
parity-read plan u i =
    xor-below-same _ _ i (λ j h. ap (λ t. t && (eqb (j % 5) (i % 5) && u j)) (sym (same_kind (kind_at plan j)))) ∙ sym (parity-first (kinds_of plan) u i)
