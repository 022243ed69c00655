use Rattle.std.proofs.Common.{◌≡◌, ℕ, length, refl, ap, ◌∙◌, arith, rules}
use Rattle.std.specs.List.{range_with_len}
use Rattle.std.proofs.iter.Yields.{nat_range_steps}
use Rattle.std.proofs.lemmas.Fn.{fold_over}
use Rattle.std.proofs.lemmas.Iterator.{YieldsList-from_range}
use Rattle.std.proofs.lemmas.List.FromFn.{length-range_with_len}
use Rattle.base.specs.Bits.{bit_of}
use Rattle.bits.specs.Blocks.{block_bit}
use Rattle.bits.proofs.Butterfly.{Staged, range-in_order, stage-none, staged_more}
use Rattle.bits.proofs.word.transform_blocks.Goals as goal

pub returns : goal.returns
returns c k l =
    let x : ℕ = c.args.x in
    let all : Staged x (range_with_len 0 c.args.n) c.fold.result =
    fold_over nat_range_steps (λ (s : ℕ). s) _ (Staged x) _ (λ stages y s z f before called. (staged_more x stages y s z before (λ small. search rules), search rules)) (record { start = 0; end = c.args.n }) _ _ _
    (YieldsList-from_range 0 c.args.n c.args.n refl (omega arith)).runs (λ order room j low. stage-none (bit_of x) j) c.fold.ensures.ran in
    let long : length (range_with_len 0 c.args.n) ≡ c.args.n = length-range_with_len 0 c.args.n in
    all (range-in_order c.args.n) (omega arith) k l ∙ ap (λ n. block_bit n (bit_of x) k) long
