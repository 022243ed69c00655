use Rattle.std.proofs.Common.{◌≡◌, ℕ, suc, ◌+◌, ◌*◌, ◌%◌, ◌^◌, ◌≤◌, length, ap, ◌∙◌, arith}
use Rattle.std.proofs.lemmas.Nat.{pow-add}
use Rattle.bits.specs.Blocks.{block_bit, words_bit}
use Rattle.bits.proofs.Butterfly.{block-bit-first, pow-whole, stage-more}
use Rattle.bits.proofs.Packed.{words-each, words-stage}
use Rattle.bits.proofs.words.transform.Goals as goal

pub stage-requires : goal.stage-requires
stage-requires c =
    let len : length c.loop-s.words ≡ 2 ^ c.args.t = omega arith in
    let room : suc c.loop-s.s ≤ c.args.t = omega arith in
    record {
      width = omega arith;
      pairs = ap (λ m. m % 2 ^ suc c.loop-s.s) len ∙ pow-whole (suc c.loop-s.s) c.args.t room;
    }

pub loop-s-preserved : goal.loop-s-preserved
loop-s-preserved c u start k l =
    let s = c.loop-s.s in
    let len : length c.loop-s.words ≡ length c.stage.new.words = omega arith in
    let all : 64 * length c.loop-s.words ≡ 2 ^ (6 + c.args.t) = omega (arith, pow-add 2 6 c.args.t) in
    let room : suc (6 + s) ≤ 6 + c.args.t = omega arith in
    let next : suc (6 + s) ≡ 6 + (s + 1) = omega arith in
    stage-more (6 + s) (64 * length c.loop-s.words) u (words_bit c.loop-s.words) (words_bit c.stage.new.words)
    (ap (λ m. m % 2 ^ suc (6 + s)) all ∙ pow-whole (suc (6 + s)) (6 + c.args.t) room)
    (c.loop-s.invariant u (λ j b. start j (omega arith)))
    (words-stage s c.loop-s.words c.stage.new.words c.stage.ensures) k (omega arith)
    ∙ ap (λ m. block_bit m u k) next

pub returns : goal.returns
returns c i l =
    let u : ℕ → _ = words_bit c.args.words.now in
    let all : 64 * length c.loop-s.words ≡ 2 ^ (6 + c.args.t) = omega (arith, pow-add 2 6 c.args.t) in
    let done : c.loop-s.s ≡ c.args.t = omega arith in
    c.loop-s.invariant u (λ k h. words-each c.args.words.now c.transform_each.new.words c.transform_each.ensures k (omega arith)) i (omega arith)
    ∙ ap (λ s. block_bit (6 + s) u i) done
    ∙ block-bit-first (6 + c.args.t) u i l
