-- The payload of a shown word, as it is read and written. Assumes nothing.
use Rattle.std.proofs.Common.{◌≡◌, ℕ, ◌+◌, ◌<◌, ◌≤◌, Bool, true, false, List, [], ◌∷◌, ◌++◌, map, length, get_or, take, set, sym, ap, ◌∙◌, subst, ap₂, arith, Result, is_ok, OnOk}
use Rattle.std.proofs.lemmas.List.{map_more, take_more_set}
use Rattle.outer.specs.declared.check.Judge as Judge
use Rattle.store.specs.declared.store.Store as Store
use Rattle.code.specs.Sending.{byte_of}
use Rattle.cost.specs.Rows.{path_at}
use Rattle.crc.specs.Lengths.{fitting}
use Rattle.crc.proofs.Fitting.{fitting-answered}
use Rattle.plan.specs.declared.plan.Plan.{Plan}
use Rattle.plan.specs.Plans.{block_length, payload_bits}
use Rattle.store.specs.declared.candidate.Candidate.{Candidate}
use Rattle.search.specs.Paths.{information_from}
use Rattle.model.specs.Blocks.{meaning_of, kinds_of}
use Rattle.model.specs.Reading.{first_bits}
use Rattle.decoder.specs.Answers.{payload_in}
use Rattle.decoder.specs.Blocks.{plan_in}
use Rattle.decoder.specs.States.{contents_of, loaded_in, phase_in, unless_blank, model_of, OnceLoaded, ShownWhole, Sound, Coherent}
use Rattle.decoder.specs.declared.state.State.{State}
use Rattle.decoder.specs.declared.phase.Phase.TheVariants as phase

pub bytes-more : (bits : List Bool) (out : List ℕ) (k v : ℕ) → k < length bits → k < length out → v ≡ byte_of (get_or bits k false) → take k out ≡ map byte_of (take k bits) → take (k + 1) (set out k v) ≡ map byte_of (take (k + 1) bits)
bytes-more bits out k v inside room value inv =
    take_more_set out k v room ∙ ap₂ (λ xs x. xs ++ (x ∷ [])) inv value ∙ sym (map_more byte_of bits k false inside)

-- what a read leaves in the payload's place, where the word is accepted
pub read-accepted :
    {E : Type 0} (longest bits : ℕ) (carried : ℕ → List Bool → List Bool) (a : ℕ) (word before after : List Bool) (r : Result (Unit {0}) E)
    → (a ≤ longest) × (length word ≡ a + bits) → length before ≡ a → is_ok r ≡ fitting longest bits (length before) (length word)
    → OnOk r (after ≡ carried (length before) word) → after ≡ carried a word
read-accepted longest bits carried a word before after r (most, whole) size answer written =
    fitting-answered longest bits (length before) (length word) r answer (omega arith) (omega arith) written ∙ ap (λ n. carried n word) size

-- the payload of a shown word is what the check carries in the information bits of its path
pub shown-payload :
    {S C : Type 0} (members : Store.Ghosts S) (judge : Judge.Ghosts C) (d : State S C) (c : Candidate) (plan : Plan) (row : ℕ → Bool) (n : ℕ) (word : List Bool) (a : ℕ) (out : List ℕ)
    → d.phase ≡ phase.Shown c → Coherent members judge d → plan ≡ plan_in d.block → row ≡ path_at d.rows c.row → n ≡ block_length plan
    → word ≡ information_from (kinds_of plan) 0 (first_bits row n) → a ≡ payload_bits (plan_in d.block)
    → ((meaning_of judge d.check).accepted a word ≡ true → out ≡ map byte_of ((meaning_of judge d.check).carried a word)) → out ≡ map byte_of (payload_in (model_of members judge d))
shown-payload members judge d c plan row n word a out shown coherent plans rows size bits length written =
    let paths = path_at d.rows in
    let sound : Sound members judge d = subst (λ p. OnceLoaded p (Sound members judge d)) shown coherent in
    let (whole, accepted) = subst (ShownWhole judge d) shown sound.shown in
    let kinds = kinds_of (plan_in d.block) in
    let same : word ≡ information_from kinds 0 (first_bits (paths c.row) (block_length (plan_in d.block))) =
    bits ∙ ap₂ (λ p k. information_from (kinds_of p) 0 (first_bits row k)) plans (size ∙ ap block_length plans) ∙ ap (λ u. information_from kinds 0 (first_bits u (block_length (plan_in d.block)))) rows in
    written (ap₂ (meaning_of judge d.check).accepted length same ∙ accepted)
    ∙ ap₂ (λ k w. map byte_of ((meaning_of judge d.check).carried k w)) length (same ∙ ap (λ k. information_from kinds 0 (first_bits (paths c.row) k)) (sym whole))
    ∙ sym (ap (λ p. map byte_of (payload_in (unless_blank p (contents_of members d) (loaded_in members judge d (phase_in paths p))))) shown)
