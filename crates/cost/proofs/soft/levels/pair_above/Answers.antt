use Rattle.std.proofs.Common.{◌≡◌, suc, ◌+◌, ◌*◌, ◌%◌, ◌^◌, ◌≤◌, get_or, pos, nat_abs, sym, ap, ◌∙◌, subst, arith, w32, SFits, rules}
use Rattle.std.proofs.lemmas.Nat.{one_shl}
use Rattle.std.proofs.lemmas.Int.{to_z-of_z}
use Rattle.cost.proofs.soft.levels.pair_above.Goals as goal

pub returns : goal.returns
returns c =
    let xs = c.args.scratch.now in
    let k = c.args.k in
    let half = 2 ^ c.args.m in
    let size : 1 * 2 ^ c.args.m % 2 ^ 64 ≡ half = one_shl c.args.m 64 (omega arith) in
    let a : SFits w32 (get_or xs (2 * (1 * 2 ^ c.args.m % 2 ^ 64) + k) (pos 0)) = search rules in
    let b : SFits w32 (get_or xs (3 * (1 * 2 ^ c.args.m % 2 ^ 64) + k) (pos 0)) = search rules in
    let at_low : 2 * (1 * 2 ^ c.args.m % 2 ^ 64) + k ≡ 2 ^ suc c.args.m + k = omega arith in
    let at_high : 3 * (1 * 2 ^ c.args.m % 2 ^ 64) + k ≡ 2 ^ suc c.args.m + (half + k) = omega arith in
    let low = to_z-of_z w32 _ a ∙ ap (λ p. get_or xs p (pos 0)) at_low in
    let high = to_z-of_z w32 _ b ∙ ap (λ p. get_or xs p (pos 0)) at_high in
    record {
      low = low;
      high = high;
      small = (
        subst (λ v. nat_abs v ≤ 2 ^ 29) (sym low) (c.requires.bounded k (omega arith)),
        subst (λ v. nat_abs v ≤ 2 ^ 29) (sym high) (c.requires.bounded (half + k) (omega arith)),
      );
    }
