use Rattle.std.proofs.Common.{◌≡◌, ℕ, ◌-◌, ◌<◌, Bool, not, ◌++◌, length, sym, ap, ◌∙◌, refl, arith, rules, tests}
use Rattle.std.proofs.lemmas.Iterator.{YieldsList-from_range}
use Rattle.std.proofs.lemmas.Iterator.Consumers.{YieldsList-from_chain}
use Rattle.std.proofs.lemmas.Iterator.Search.{find_from_yields_List}
use Rattle.std.specs.List.{find, range_with_len}
use Rattle.std.specs.Option.{option_map}
use Rattle.store.specs.Meaning.{holds_row}
use Rattle.model.proofs.Rows.{not-all-held}
use Rattle.decoder.proofs.Found.{all-held-behind}
use Rattle.decoder.proofs.rows.free_row.Goals as goal

pub unreachable-requires : goal.unreachable-requires
unreachable-requires g c =
    let s = c.args.store.now in
    let within = g.met.S.Store.within s in
    let sized = (g.met.S.Store.sized s).1 in
    let few : length (g.S.Store.kept s) < 129 = omega arith in
    let held : ℕ → Bool = λ r. holds_row r (g.S.Store.kept s) in
    let likely = range_with_len c.args.likely (129 - c.args.likely) in
    let found : option_map (λ (x : ℕ). x) c.find.result ≡ find (λ r. not (held r)) (likely ++ range_with_len 0 129) =
    find_from_yields_List (λ r. not (held r)) _ _ c.find.result c.find.ensures.ran (YieldsList-from_chain (YieldsList-from_range c.args.likely 129 (129 - c.args.likely) (cc) refl) (YieldsList-from_range 0 129 129 (cc) refl) (cc) (cc)) (λ x b q k. search (rules, tests)) in
    not-all-held (g.S.Store.kept s) 129 few (all-held-behind held likely 129 (sym (ap (option_map (λ (x : ℕ). x)) c.in-None.is) ∙ found))
