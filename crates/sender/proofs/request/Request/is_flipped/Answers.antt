use Rattle.std.proofs.Common.{◌≡◌, ℕ, ◌<◌, Bool, true, false, eqb, List, length, get_or, MatchBool, sym, rules, arith, vec_items, tests}
use Rattle.std.proofs.lemmas.Iterator.{cases_from_any, YieldsList-from_slice}
use Rattle.std.specs.List.{AllWithin, HoldsAt}
use Rattle.base.specs.Counts.{any_below}
use Rattle.base.proofs.Counts.{any-from, any_none}
use Rattle.sender.proofs.request.Request.is_flipped.Goals as goal

any_is : (p : ℕ → Bool) (xs : List ℕ) (r : Bool)
    → MatchBool r ((k : ℕ) × (k < length xs) × HoldsAt (λ x. p x ≡ true) xs k) (AllWithin (λ x. p x ≡ false) xs 0 (length xs))
    → r ≡ any_below (λ j. p (get_or xs j 0)) (length xs)
any_is p xs true h = sym (any-from (λ j. p (get_or xs j 0)) (length xs) h.0 h.1 (h.2 0))
any_is p xs false h = sym (any_none (λ j. p (get_or xs j 0)) (length xs) (λ k l. h k 0 (omega arith) l))

pub returns : goal.returns
returns c =
    let p : ℕ → Bool = λ flip. eqb flip c.args.k in
    any_is p (vec_items c.args.self.now.flips) c.any.result
    (cases_from_any _ _ _ (λ flip. p flip ≡ true) (λ flip. p flip ≡ false) c.any.ensures.ran (YieldsList-from_slice (vec_items c.args.self.now.flips) cc)
    (λ x q k. search (rules, tests)) (λ x q k. search (rules, tests)))
