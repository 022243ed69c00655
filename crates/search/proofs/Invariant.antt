-- What a search has explored, as one invariant over the kept candidates, the taken paths and the children still to be
-- put, and that taking, putting, leaving out and shedding keep it. Assumes a block's laws.
use Rattle.std.proofs.Common.{◌≡◌, ℕ, zero, suc, ◌+◌, ◌≤◌, Bool, true, false, cond, not, ◌&&◌, eqb, ltb, ◌⊎◌, List, [], ◌∷◌, length, Some, None, Option, sym, refl, ◌∙◌, subst, inl, inr, arith}
use mathlib.Core.Bool.{false≢true}
use Rattle.std.proofs.lemmas.Bool.{ltb-false, le-ltb, eqb-true, eq-eqb, and_parts, and_from}
use Rattle.search.specs.Lists.{count, Among, Each}
use Rattle.search.specs.Paths.{Block, BlockLaws, lawful, child, information_bits}
use Rattle.search.specs.Stores.{Candidate, Reaches, InOrder, Keeps}
use Rattle.search.specs.Search.{root}
use Rattle.search.proofs.Lists.{count-among, among-count, none-among, count_none, each_at, each_map}
use Rattle.search.proofs.Prefixes.{is_prefix, same, times, leading, prefix-split}
use Rattle.search.proofs.Lawful.{lawful-root, prefix-costs, Hopeful}

-- a candidate with a lawful path, whose metric is its cost
abbrev pub sound : Block → Candidate → Bool
sound b c = lawful b c.path && (eqb c.metric (b.cost c.path) && eqb c.length (length c.path))

-- how many candidates are beginnings of w
abbrev pub begun : List Bool → List Candidate → ℕ
begun w cs = count (λ c. is_prefix c.path w) cs

-- Of the taken paths the last cost `level`; of the path `parent` the children by `bits` are still to be put.
pub record Explored (b : Block) (kept : List Candidate) (floor : Option ℕ) (taken : List (List Bool)) (level : ℕ) (parent bits : List Bool) : Type 0 where
  pub sound : count (λ c. not (sound b c)) kept ≡ 0
  pub above : count (λ c. ltb c.metric level) kept ≡ 0
  pub past : Each (λ w. (lawful b w ≡ true) × (b.cost w ≤ level)) taken
  pub pending : (u : Bool) → Among u bits → (lawful b (child parent u) ≡ true) × (level ≤ b.cost (child parent u))
  -- a path was taken at most once, and then nothing at hand is a beginning of it
  pub once : (w : List Bool) → times w taken + (begun w kept + leading parent w bits) ≤ 1
  pub covered : (w : List Bool) → lawful b w ≡ true → Hopeful b w → (1 ≤ times w taken + (begun w kept + leading parent w bits)) ⊎ Reaches (b.cost w) floor

pub reaches_more : (m n : ℕ) (floor : Option ℕ) → m ≤ n → Reaches m floor → Reaches n floor
reaches_more m n None h r = absurd r
reaches_more m n (Some f) h r = omega arith

some-part : (a k c : ℕ) → 1 ≤ a + (k + c) → (1 ≤ a + c) ⊎ (1 ≤ k)
some-part a zero c h = inl (omega arith)
some-part a (suc k) c h = inr (omega arith)

pub sound-parts : (b : Block) (c : Candidate) → sound b c ≡ true → (lawful b c.path ≡ true) × (c.metric ≡ b.cost c.path) × (c.length ≡ length c.path)
sound-parts b c e =
    let (l, q) = and_parts (lawful b c.path) (eqb c.metric (b.cost c.path) && eqb c.length (length c.path)) e in
    let (k, n) = and_parts (eqb c.metric (b.cost c.path)) (eqb c.length (length c.path)) q in
    (l, eqb-true c.metric (b.cost c.path) k, eqb-true c.length (length c.path) n)

-- a kept candidate that is a beginning of w costs no more than w
pub begun-costs : (b : Block) → BlockLaws b → (cs : List Candidate) → count (λ c. not (sound b c)) cs ≡ 0 → (w : List Bool) → lawful b w ≡ true → (c : Candidate) → Among c cs → is_prefix c.path w ≡ true → c.metric ≤ b.cost w
begun-costs b laws cs none w e c m h = let (l, q, n) = sound-parts b c (none-among (sound b) cs none c m) in let k = prefix-costs b laws c.path w h e in omega arith

-- what a store makes of the candidates at hand
pub sieved : {b : Block} {at_hand after : List Candidate} {floor floor_after : Option ℕ} {taken : List (List Bool)} {level : ℕ} {parent bits : List Bool} → BlockLaws b → Explored b at_hand floor taken level parent bits → Keeps at_hand floor after floor_after → Explored b after floor_after taken level parent bits
sieved {b} {at_hand} {after} {floor} {floor_after} {taken} {level} {parent} {bits} laws i k = record {
  sound = let h = k.only (λ c. not (sound b c)) in let z = i.sound in omega arith;
  above = let h = k.only (λ c. ltb c.metric level) in let z = i.above in omega arith;
  past = i.past;
  pending = i.pending;
  once = λ w. let h = k.only (λ c. is_prefix c.path w) in let z = i.once w in omega arith;
  covered = λ w e o. elim (i.covered w e o) [ inl h ↦ still w e (some-part (times w taken) (begun w at_hand) (leading parent w bits) h) | inr r ↦ inr (k.falls (b.cost w) r) ];
}
  where
    Still : List Bool → Type 0
    Still w = (1 ≤ times w taken + (begun w after + leading parent w bits)) ⊎ Reaches (b.cost w) floor_after

    kept_on : (w : List Bool) (c : Candidate) → c.metric ≤ b.cost w → is_prefix c.path w ≡ true → Among c after ⊎ Reaches c.metric floor_after → Still w
    kept_on w c l p (inl m) = let h = count-among (λ d. is_prefix d.path w) c after m p in inl (omega arith)
    kept_on w c l p (inr r) = inr (reaches_more c.metric (b.cost w) floor_after l r)

    still : (w : List Bool) → lawful b w ≡ true → (1 ≤ times w taken + leading parent w bits) ⊎ (1 ≤ begun w at_hand) → Still w
    still w e (inl h) = inl (omega arith)
    still w e (inr h) = let (c, m, p) = among-count (λ d. is_prefix d.path w) at_hand h in kept_on w c (begun-costs b laws at_hand i.sound w e c m p) p (k.lost c m)

-- the first candidate becomes a taken path, with children `bits` to be put
pub taken-first : {b : Block} {c : Candidate} {others : List Candidate} {floor : Option ℕ} {taken : List (List Bool)} {level : ℕ} {parent : List Bool} (bits : List Bool) → BlockLaws b → Explored b (c ∷ others) floor taken level parent [] → InOrder (c ∷ others) → ((w : List Bool) → leading c.path w bits + cond (same w c.path) 1 0 ≤ cond (is_prefix c.path w) 1 0) → ((w : List Bool) → lawful b w ≡ true → is_prefix c.path w ≡ true → 1 ≤ leading c.path w bits + cond (same w c.path) 1 0) → ((u : Bool) → Among u bits → (lawful b (child c.path u) ≡ true) × (c.metric ≤ b.cost (child c.path u))) → Explored b others floor (c.path ∷ taken) c.metric c.path bits
taken-first {b} {c} {others} {floor} {taken} {level} {parent} bits laws i order at_most at_least_lem lawful-bits = record {
  sound = let z = i.sound in omega arith;
  above = count_none (λ d. ltb d.metric c.metric) others (λ d m. le-ltb d.metric c.metric (each_at (λ d. c.metric ≤ d.metric) others order.0 d m));
  past = ((mine.0, let q = mine.1 in omega arith), each_map (λ w. (lawful b w ≡ true) × (b.cost w ≤ level)) (λ w. (lawful b w ≡ true) × (b.cost w ≤ c.metric)) taken (λ w h. (h.0, let l = level-below in omega arith)) i.past);
  pending = lawful-bits;
  once = λ w. let z = i.once w in let h = at_most w in omega arith;
  covered = λ w e o. elim (i.covered w e o) [ inl h ↦ inl (go w e (is_prefix c.path w) refl h) | inr r ↦ inr r ];
}
  where
    mine : (lawful b c.path ≡ true) × (c.metric ≡ b.cost c.path) × (c.length ≡ length c.path)
    mine = sound-parts b c (none-among (sound b) (c ∷ others) i.sound c (inl refl))

    level-below : level ≤ c.metric
    level-below = ltb-false c.metric level (not-true-false (ltb c.metric level) refl)
      where
        not-true-false : (t : Bool) → ltb c.metric level ≡ t → ltb c.metric level ≡ false
        not-true-false true e = let z : cond true 1 0 + count (λ d. ltb d.metric level) others ≡ 0 = subst (λ t. cond t 1 0 + count (λ d. ltb d.metric level) others ≡ 0) e i.above in absurd (omega arith)
        not-true-false false e = e

    go : (w : List Bool) → lawful b w ≡ true → (t : Bool) → is_prefix c.path w ≡ t → 1 ≤ times w taken + ((cond (is_prefix c.path w) 1 0 + begun w others) + 0) → 1 ≤ (cond (same w c.path) 1 0 + times w taken) + (begun w others + leading c.path w bits)
    go w e true q h = let k = at_least_lem w e q in omega arith
    go w e false q h = let k : 1 ≤ times w taken + ((cond false 1 0 + begun w others) + 0) = subst (λ t. 1 ≤ times w taken + ((cond t 1 0 + begun w others) + 0)) q h in omega arith

-- a child is put
pub put_first : {b : Block} {kept : List Candidate} {floor : Option ℕ} {taken : List (List Bool)} {level : ℕ} {parent bits : List Bool} {u : Bool} (n : ℕ) → Explored b kept floor taken level parent (u ∷ bits) → Explored b (record { metric = b.cost (child parent u); length = length (child parent u); serial = n; path = child parent u } ∷ kept) floor taken level parent bits
put_first {b} {kept} {floor} {taken} {level} {parent} {bits} {u} n i = record {
  sound = let z = i.sound in let s : sound b c ≡ true = and_from (lawful b q) (eqb (b.cost q) (b.cost q) && eqb (length q) (length q)) mine.0 (and_from (eqb (b.cost q) (b.cost q)) (eqb (length q) (length q)) (eq-eqb (b.cost q) (b.cost q) refl) (eq-eqb (length q) (length q) refl)) in subst (λ t. cond (not t) 1 0 + count (λ d. not (sound b d)) kept ≡ 0) (sym s) (omega arith);
  above = let z = i.above in subst (λ t. cond t 1 0 + count (λ d. ltb d.metric level) kept ≡ 0) (sym (le-ltb (b.cost q) level mine.1)) (omega arith);
  past = i.past;
  pending = λ v m. i.pending v (inr m);
  once = λ w. let z = i.once w in omega arith;
  covered = λ w e o. elim (i.covered w e o) [ inl h ↦ inl (omega arith) | inr r ↦ inr r ];
}
  where
    q : List Bool
    q = child parent u

    c : Candidate
    c = record { metric = b.cost (child parent u); length = length (child parent u); serial = n; path = child parent u }

    mine : (lawful b q ≡ true) × (level ≤ b.cost q)
    mine = i.pending u (inl refl)

-- a hopeless child is left out
pub left_out : {b : Block} {kept : List Candidate} {floor : Option ℕ} {taken : List (List Bool)} {level : ℕ} {parent bits : List Bool} {u : Bool} → b.hopeless (information_bits b (child parent u)) ≡ true → Explored b kept floor taken level parent (u ∷ bits) → Explored b kept floor taken level parent bits
left_out {b} {kept} {floor} {taken} {level} {parent} {bits} {u} bad i = record {
  sound = i.sound;
  above = i.above;
  past = i.past;
  pending = λ v m. i.pending v (inr m);
  once = λ w. let z = i.once w in omega arith;
  covered = λ w e o. elim (i.covered w e o) [ inl h ↦ inl (go w o (is_prefix (child parent u) w) refl h) | inr r ↦ inr r ];
}
  where
    go : (w : List Bool) → Hopeful b w → (t : Bool) → is_prefix (child parent u) w ≡ t → 1 ≤ times w taken + (begun w kept + (cond (is_prefix (child parent u) w) 1 0 + leading parent w bits)) → 1 ≤ times w taken + (begun w kept + leading parent w bits)
    go w o true q h = let (r, s) = prefix-split (child parent u) w q in absurd (false≢true (sym (o (child parent u) r s) ∙ bad))
    go w o false q h = let k : 1 ≤ times w taken + (begun w kept + (cond false 1 0 + leading parent w bits)) = subst (λ t. 1 ≤ times w taken + (begun w kept + (cond t 1 0 + leading parent w bits))) q h in omega arith

-- at a load the path of length 0 is put
pub at-start : {b : Block} → BlockLaws b → Explored b (root ∷ []) None [] 0 [] []
at-start {b} laws = record {
  sound = subst (λ t. cond (not t) 1 0 + 0 ≡ 0) (sym (and_from (lawful b []) (eqb 0 (b.cost []) && eqb 0 0) (lawful-root b) (and_from (eqb 0 (b.cost [])) (eqb 0 0) (eq-eqb 0 (b.cost []) (sym laws.start)) refl))) (omega arith);
  above = subst (λ t. cond t 1 0 + 0 ≡ 0) (sym (le-ltb 0 0 (omega arith))) (omega arith);
  past = tt;
  pending = λ u m. absurd m;
  once = λ w. omega arith;
  covered = λ w e o. inl (omega arith);
}

-- nothing is pending: the parent does not matter
pub at_rest : {b : Block} {kept : List Candidate} {floor : Option ℕ} {taken : List (List Bool)} {level : ℕ} (parent other : List Bool) → Explored b kept floor taken level parent [] → Explored b kept floor taken level other []
at_rest parent other i = record { sound = i.sound; above = i.above; past = i.past; pending = λ u m. absurd m; once = i.once; covered = i.covered }
