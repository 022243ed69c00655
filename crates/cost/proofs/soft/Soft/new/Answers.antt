use Rattle.std.proofs.Common.{◌^◌, ◌≤◌, nat_abs, sym, refl, ◌∙◌, subst, arith, pow_mono}
use Rattle.std.proofs.lemmas.Bool.{and_from, le-leb, eq-eqb}
use Rattle.std.proofs.lemmas.Nat.{one_shl}
use Rattle.cost.proofs.Limits.{none-beyond, not_some}
use Rattle.cost.proofs.soft.Soft.new.Goals as goal

pub padded-requires : goal.padded-requires
padded-requires c =
    let most : 2 ^ c.args.n ≤ 2 ^ 10 = pow_mono c.if-n-gt10.false in
    record { size = omega (arith, one_shl c.args.n 64 (omega arith)) }

pub invariant_of-result : goal.invariant_of-result
invariant_of-result c = record {
  size = c.if-n-gt10.false;
  whole = c.padded.ensures.len;
  bounded = (λ k. subst (λ v. nat_abs v ≤ 1048576) (sym (c.padded.ensures.values k)) (none-beyond c.args.llrs.now (not_some c.first_beyond.ensures c.is_some.ensures c.if-is_some.false) k));
}

pub returns : goal.returns
returns c = (
  and_from _ _ (le-leb _ 10 c.if-n-gt10.false)
      (and_from _ _ (eq-eqb _ _ (c.if-llrs-n.false ∙ one_shl c.args.n 64 (omega arith))) (not_some c.first_beyond.ensures c.is_some.ensures c.if-is_some.false)),
  refl,
  c.padded.ensures.values,
)
