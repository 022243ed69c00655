use Rattle.std.proofs.Common.{◌≡◌, ◌*◌, ◌%◌, ◌^◌, ◌≤◌, pos, nat_abs, sym, refl, ◌∙◌, subst, ap₂, arith, w32, rules, get_or-set_other}
use Rattle.std.proofs.lemmas.Int.{to_z-of_z}
use Rattle.std.proofs.lemmas.Nat.{one_shl}
use Rattle.cost.specs.Levels.{Filled, paired}
use Rattle.cost.proofs.Filling.{filled_none, filled-turn}
use Rattle.cost.proofs.soft.levels.fill_by.Goals as goal

pub loop-k-init : goal.loop-k-init
loop-k-init g c = (λ j. refl, λ value computes. filled_none _ _ _)

pub pair_above-a-requires-clause-bounded : goal.pair_above-a-requires-clause-bounded
pair_above-a-requires-clause-bounded g c = λ j lt.
    subst (λ v. nat_abs v ≤ 2 ^ 29) (sym (c.loop-k.invariant.0 j)) (c.requires.bounded j lt)

pub loop-k-preserved : goal.loop-k-preserved
loop-k-preserved g c =
    let half : 1 * 2 ^ c.args.m % 2 ^ 64 ≡ 2 ^ c.args.m = one_shl c.args.m 64 (omega arith) in
    let a = to_z-of_z w32 c.pair_above-a.result.0 (search rules) in
    let b = to_z-of_z w32 c.pair_above-a.result.1 (search rules) in
    let r = to_z-of_z w32 c.rule.result (search rules) in
    let small = c.pair_above-a.ensures.small in (
      (λ j. get_or-set_other c.loop-k.scratch _ _ _ (pos 0) (omega arith) ∙ c.loop-k.invariant.0 j),
      λ value computes.
          filled-turn c.args.m c.loop-k.k _ value c.args.scratch.now c.loop-k.scratch _ _ _ (omega arith) (omega arith)
          (omega arith) c.pair_above-a.ensures.low c.pair_above-a.ensures.high
          (r
          ∙ computes c.loop-k.k _ _ _ (omega arith) (subst (λ v. nat_abs v ≤ 2 ^ 29) (sym a) small.0)
          (subst (λ v. nat_abs v ≤ 2 ^ 29) (sym b) small.1) c.rule.ensures
          ∙ ap₂ (value c.loop-k.k) a b) (c.loop-k.invariant.1 value computes),
    )

pub returns : goal.returns
returns g c = λ value computes.
    let all : c.loop-k.k ≡ 2 ^ c.args.m = omega (arith, one_shl c.args.m 64 (omega arith)) in
    subst (λ k. Filled (2 ^ c.args.m) k (paired c.args.m value c.args.scratch.now) c.args.scratch.now c.loop-k.scratch) all
    (c.loop-k.invariant.1 value computes)
