use Rattle.std.proofs.Common.{◌≡◌, ℕ, suc, ◌+◌, ◌*◌, ◌/◌, ◌%◌, ◌^◌, ◌<◌, ◌≤◌, true, ap, ◌∙◌, mod-eq_of_lt, div-mul-le_self, arith, rules}
use Rattle.bits.specs.Row.{is_aligned_block, row_bit}
use Rattle.cost.specs.Levels.{level, start}
use Rattle.cost.specs.Values.{f, g}
use Rattle.cost.proofs.Descent.{fill-low, fill-high, first-half-block}
use Rattle.cost.proofs.soft.levels.fill_level.Goals as goal

pub returns-then-i-m-eq0 : goal.returns-then-i-m-eq0
returns-then-i-m-eq0 c =
    fill-low c.args.m c.args.i (level c.args.scratch.now (suc c.args.m)) (row_bit c.args.row.now)
    c.args.scratch.now c.fill_by.new.scratch c.if-i-m-eq0.true
    (c.fill_by.ensures (λ _. f) (λ k a b v lt low high made. search rules))

pub returns : goal.returns
returns c =
    let begun : start (suc c.args.m) c.args.i ≤ c.args.i = div-mul-le_self c.args.i (2 ^ suc c.args.m) in
    let base : ℕ = c.args.i / 2 ^ (c.args.m + 1) * 2 ^ (c.args.m + 1) % 2 ^ 64 in
    let next : c.args.m + 1 ≡ suc c.args.m = omega arith in
    let fits : start (suc c.args.m) c.args.i < 2 ^ 64 = omega arith in
    let begin : base ≡ start (suc c.args.m) c.args.i =
    ap (λ e. c.args.i / 2 ^ e * 2 ^ e % 2 ^ 64) next ∙ mod-eq_of_lt fits in
    let whole : is_aligned_block base c.args.m ≡ true =
    ap (λ b. is_aligned_block b c.args.m) begin ∙ first-half-block c.args.m c.args.i (omega arith) (omega arith) in
    fill-high c.args.m c.args.i base (level c.args.scratch.now (suc c.args.m)) (row_bit c.args.row.now)
    (row_bit c.transform_block.new.self) c.args.scratch.now c.fill_by-2.new.scratch c.if-i-m-eq0.false begin
    (c.transform_block.ensures.inside whole)
    (c.fill_by-2.ensures (λ k a b. g a b (row_bit c.transform_block.new.self (base + k))) (λ k a b v lt low high made. search rules))
