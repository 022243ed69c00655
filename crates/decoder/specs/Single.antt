-- That a state is coherent in one way at most, as a fact that a type carries must be. Assumes nothing.
use Rattle.std.specs.Prelude.{ℕ, List, [], ◌∷◌}
use Rattle.std.specs.Coded.{×_prop, Unit-prop}
use Rattle.std.proofs.Props.{props}
use Rattle.outer.specs.declared.check.Judge as Judge
use Rattle.store.specs.declared.store.Store as Store
use Rattle.store.specs.declared.candidate.Candidate.{Candidate}
use Rattle.search.specs.Lists.{Each}
use Rattle.search.specs.Paths.{Block}
use Rattle.search.specs.Stores as stores
use Rattle.search.specs.Laws.{Exact}
use Rattle.decoder.specs.States.{RowsApart, ShownWhole, Sound, OnceLoaded, Coherent}
use Rattle.decoder.specs.declared.state.State.{State}
use Rattle.decoder.specs.declared.phase.Phase.{Phase}
use Rattle.decoder.specs.declared.phase.Phase.TheVariants as phase

Each-prop : {A : Type 0} (P : A → Type 0) → ((x : A) → IsProp (P x)) → (xs : List A) → IsProp (Each P xs)
Each-prop P one [] = Unit-prop
Each-prop P one (x ∷ xs) = ×_prop (one x) (Each-prop P one xs)

Exact-prop : (b : Block) (next : ℕ) (c : stores.Candidate) → IsProp (Exact b next c)
Exact-prop b next c = hlevel props

RowsApart-prop : (cs : List Candidate) → IsProp (RowsApart cs)
RowsApart-prop [] = Unit-prop
RowsApart-prop (c ∷ cs) = ×_prop (hlevel props) (RowsApart-prop cs)

ShownWhole-prop : {S C : Type 0} (judge : Judge.Ghosts C) (d : State S C) (p : Phase) → IsProp (ShownWhole judge d p)
ShownWhole-prop judge d phase.Blank = Unit-prop
ShownWhole-prop judge d phase.Searching = Unit-prop
ShownWhole-prop judge d (phase.Shown c) = hlevel props
ShownWhole-prop judge d phase.Ended = Unit-prop

Sound-prop : {S C : Type 0} (members : Store.Ghosts S) (judge : Judge.Ghosts C) (d : State S C) → IsProp (Sound members judge d)
Sound-prop members judge d = hlevel (props, Each-prop, Exact-prop, RowsApart-prop, ShownWhole-prop)

OnceLoaded-prop : (p : Phase) (P : Type 0) → IsProp P → IsProp (OnceLoaded p P)
OnceLoaded-prop phase.Blank P one = Unit-prop
OnceLoaded-prop phase.Searching P one = one
OnceLoaded-prop (phase.Shown c) P one = one
OnceLoaded-prop phase.Ended P one = one

pub Coherent-prop : {S C : Type 0} (members : Store.Ghosts S) (judge : Judge.Ghosts C) (d : State S C) → IsProp (Coherent members judge d)
Coherent-prop members judge d = OnceLoaded-prop d.phase (Sound members judge d) (Sound-prop members judge d)
