-- The state right after a granted load. Assumes nothing.
use Rattle.std.proofs.Common.{◌≡◌, ℕ, ◌<◌, Bool, false, ltb, List, [], ◌∷◌, Option, sym, refl, ap, ◌∙◌, subst, arith}
use mathlib.Core.Path.{fun_ext}
use Rattle.std.proofs.lemmas.Bool.{cond-true, lt-ltb}
use Rattle.search.specs.Lists.{Each}
use Rattle.search.specs.Paths.{Block}
use Rattle.search.specs.Stores.{Contents, put_into, emptied_to, held_capacity, keeping_all, shedding_last}
use Rattle.search.specs.Search.{root}
use Rattle.search.specs.Laws.{Exact}
use Rattle.search.specs.Calls.{Blank}
use Rattle.store.specs.declared.candidate.Candidate as store
use Rattle.model.specs.Reading.{contents_in}
use Rattle.search.proofs.Lawful.{lawful-root}

root_kept : (wanted : ℕ) → (put_into (emptied_to wanted) root).kept ≡ root ∷ []
root_kept wanted =
    let room : 0 < held_capacity wanted = omega arith in
    ap (λ s. s.kept) (cond-true (ltb 0 (held_capacity wanted)) (keeping_all (emptied_to wanted) root) (shedding_last (emptied_to wanted) root) (lt-ltb 0 (held_capacity wanted) room))

pub root-exact : (b : Block) (wanted : ℕ) (s : Contents) → b.cost [] ≡ 0 → s ≡ put_into (emptied_to wanted) root → Each (Exact b 1) s.kept
root-exact b wanted s start e =
    subst (Each (Exact b 1)) (sym (ap (λ x. x.kept) e ∙ root_kept wanted))
    (record { lawful = lawful-root b; metric = sym start; length = refl; serial = omega arith }, tt)

-- a new decoder, whose rows are all zero
pub blank-read :
    (paths : ℕ → ℕ → Bool) (kept : List store.Candidate) (capacity : ℕ) (floor : Option ℕ) → ((row k : ℕ) → paths row k ≡ false)
    → Blank (contents_in paths kept capacity floor) ≡ Blank (contents_in (λ row k. false) kept capacity floor)
blank-read paths kept capacity floor zero = ap (λ p. Blank (contents_in p kept capacity floor)) (fun_ext (λ row. fun_ext (zero row)))
