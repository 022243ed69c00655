use Rattle.std.proofs.Common.{◌≡◌, ℕ, ◌+◌, ◌-◌, ◌*◌, ◌/◌, ◌%◌, ◌^◌, ◌≤◌, true, sym, arith, rules}
use Rattle.std.proofs.lemmas.Bool.{both_ways}
use Rattle.std.proofs.lemmas.Nat.{one_shl}
use Rattle.bits.specs.Row.{is_aligned_block, row_bit}
use Rattle.bits.proofs.Blocked.{block-placed, blocked-word, blocked-words, run_lent, run-put, word-aligned, words-fit}
use Rattle.bits.proofs.row.Row.transform_block.Goals as goal

pub transform_block-requires : goal.transform_block-requires
transform_block-requires c =
    let p = block-placed c.args.base c.args.n (sym c.if-not-is_block.ensures) in
    record { width = (omega arith, omega arith); aligned = word-aligned c.args.base c.args.n (omega arith) p }

-- how many words the block has
count : (base n : ℕ) → is_aligned_block base n ≡ true → 1 * 2 ^ (n - 6) % 2 ^ 64 ≡ 2 ^ (n - 6)
count base n block = let p = block-placed base n block in one_shl (n - 6) 64 (omega (arith, p.short))

pub slice_bounds-transform-end : goal.slice_bounds-transform-end
slice_bounds-transform-end c =
    let n = c.args.n in
    let block = sym c.if-not-is_block.ensures in
    let fit : c.args.base / 64 + 1 * 2 ^ (n - 6) % 2 ^ 64 ≤ 16 =
    words-fit c.args.base n _ (omega arith) (block-placed c.args.base n block) (count c.args.base n block) in
    search rules

pub invariant_of-self-else-n-lt6 : goal.invariant_of-self-else-n-lt6
invariant_of-self-else-n-lt6 c =
    let block = sym c.if-not-is_block.ensures in
    let run = run_lent c.args.self.now.words c.transform.new.words c.args.base c.args.n _ c.if-n-lt6.false block c.args.self.now.whole (count c.args.base c.args.n block) c.transform.auto.words in
    record {
      whole = run-put c.args.self.now.words c.transform.new.words c.args.base c.args.n _ run;
    }

pub returns-then-n-lt6 : goal.returns-then-n-lt6
unfolding row_bit
returns-then-n-lt6 c =
    let block : is_aligned_block c.args.base c.args.n ≡ true = sym c.if-not-is_block.ensures in
    let b = blocked-word c.args.self.now.words c.args.base c.args.n c.transform_block.result c.args.self.now.whole (omega arith) (block-placed c.args.base c.args.n block) c.transform_block.ensures.inside c.transform_block.ensures.outside in
    record { inside = λ _. b.inside; outside = b.outside; refused = λ no. absurd (both_ways (is_aligned_block c.args.base c.args.n) no block) }

pub returns-else-n-lt6 : goal.returns-else-n-lt6
unfolding row_bit
returns-else-n-lt6 c =
    let block : is_aligned_block c.args.base c.args.n ≡ true = sym c.if-not-is_block.ensures in
    let run = run_lent c.args.self.now.words c.transform.new.words c.args.base c.args.n _ c.if-n-lt6.false block c.args.self.now.whole (count c.args.base c.args.n block) c.transform.auto.words in
    let b = blocked-words c.args.self.now.words c.transform.new.words c.args.base c.args.n _ run c.transform.ensures in
    record { inside = λ _. b.inside; outside = b.outside; refused = λ no. absurd (both_ways (is_aligned_block c.args.base c.args.n) no block) }
