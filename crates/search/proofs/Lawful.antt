-- Lawful paths and their children, costs along a path, and beginnings of admissible words. Assumes a block's laws where named.
use Rattle.std.proofs.Common.{◌≡◌, ℕ, zero, suc, ◌+◌, ◌%◌, ◌<◌, ◌≤◌, Bool, true, false, cond, ◌&&◌, eqb, leb, ◌⊎◌, List, [], ◌∷◌, ◌++◌, length, sym, refl, ap, ◌∙◌, subst, ap₂, inl, inr, add-zero, arith, length-append}
use mathlib.Core.Bool.{xor}
use Rattle.std.proofs.lemmas.List.{length_push, get_or_append_left, get_or_push, append_assoc, append-nil, get_or_at}
use Rattle.std.proofs.lemmas.Bool.{leb-true, le-leb, and_parts, and_from}
use Rattle.base.specs.Counts.{all_below, count_below, xor_below}
use Rattle.search.specs.Lists.{Among}
use Rattle.search.specs.Paths.{Kind, Block, BlockLaws, Admissible, is_information, parity_bit, fitting, obeys, lawful, allowed, child, information_from, information_bits, information_count}
use Rattle.search.proofs.Prefixes.{is_prefix, same, same_refl, prefix-split, choice-fits, children-cover, leading}

all_below-at : (f : ℕ → Bool) (n i : ℕ) → all_below f n ≡ true → i < n → f i ≡ true
unfolding all_below
all_below-at f zero i e h = absurd (omega arith)
all_below-at f (suc n) i e h = let (a, b) = and_parts (all_below f n) (f n) e in elim (last n i h) [ inl q ↦ subst (λ k. f k ≡ true) (sym q) b | inr l ↦ all_below-at f n i a l ]
  where
    last : (n i : ℕ) → i < suc n → (i ≡ n) ⊎ (i < n)
    last n i h = grind arith

all_below-same : (f g : ℕ → Bool) (n : ℕ) → ((i : ℕ) → i < n → f i ≡ g i) → all_below f n ≡ all_below g n
unfolding all_below
all_below-same f g zero h = refl
all_below-same f g (suc n) h = ap₂ ◌&&◌ (all_below-same f g n (λ i l. h i (omega arith))) (h n (omega arith))

xor_below-same : (f g : ℕ → Bool) (n : ℕ) → ((i : ℕ) → i < n → f i ≡ g i) → xor_below f n ≡ xor_below g n
unfolding xor_below
xor_below-same f g zero h = refl
xor_below-same f g (suc n) h = ap₂ xor (xor_below-same f g n (λ i l. h i (omega arith))) (h n (omega arith))

-- the parity sum at a position reads only what stands before it
parity-append : (kind : ℕ → Kind) (p r : List Bool) (i : ℕ) → i ≤ length p → parity_bit kind (p ++ r) i ≡ parity_bit kind p i
parity-append kind p r i h = xor_below-same _ _ i (λ j l. ap (λ u. is_information (kind j) && (eqb (j % 5) (i % 5) && u)) (get_or_append_left p r false j (omega arith)))

obeys-append : (kind : ℕ → Kind) (p r : List Bool) (i : ℕ) → i < length p → obeys kind (p ++ r) i ≡ obeys kind p i
obeys-append kind p r i h = ap₂ (fitting (kind i)) (parity-append kind p r i (omega arith)) (get_or_append_left p r false i h)

pub length-child : (p : List Bool) (u : Bool) → length (child p u) ≡ suc (length p)
length-child p u = omega (arith, length_push p u)

pub lawful-length : (b : Block) (w : List Bool) → lawful b w ≡ true → length w ≤ b.size
lawful-length b w e = leb-true (length w) b.size (and_parts (leb (length w) b.size) (all_below (obeys b.kind w) (length w)) e).0

pub lawful-root : (b : Block) → lawful b [] ≡ true
unfolding all_below
lawful-root b = and_from (leb 0 b.size) true (le-leb 0 b.size (omega arith)) refl

pub lawful-child : (b : Block) (p : List Bool) (u : Bool) → lawful b p ≡ true → length p < b.size → Among u (allowed b.kind p) → lawful b (child p u) ≡ true
unfolding all_below
lawful-child b p u e h m =
    let n = length p in
    let f = obeys b.kind (child p u) in
    let (l, a) = and_parts (leb (length p) b.size) (all_below (obeys b.kind p) (length p)) e in
    let len = length-child p u in
    let before : all_below f n ≡ true = all_below-same f (obeys b.kind p) n (λ i k. obeys-append b.kind p (u ∷ []) i k) ∙ a in
    let here : f n ≡ true = ap₂ (fitting (b.kind n)) (parity-append b.kind p (u ∷ []) n (omega arith)) (get_or_push p u false n refl) ∙ choice-fits (b.kind n) (parity_bit b.kind p n) u m in
    and_from (leb (length (child p u)) b.size) (all_below f (length (child p u))) (le-leb (length (child p u)) b.size (omega arith)) (subst (λ k. all_below f k ≡ true) (sym len) (and_from (all_below f n) (f n) before here))

-- the bit by which a lawful path goes on fits
pub goes_on : (b : Block) (p : List Bool) (u : Bool) (r : List Bool) → lawful b (p ++ (u ∷ r)) ≡ true → fitting (b.kind (length p)) (parity_bit b.kind p (length p)) u ≡ true
goes_on b p u r e =
    let w = p ++ (u ∷ r) in
    let n = length p in
    let a = (and_parts (leb (length w) b.size) (all_below (obeys b.kind w) (length w)) e).1 in
    let len = length-append p (u ∷ r) in
    let here = all_below-at (obeys b.kind w) (length w) n a (omega arith) in
    sym (ap₂ (fitting (b.kind n)) (parity-append b.kind p (u ∷ r) n (omega arith)) (get_or_at p u r false n refl)) ∙ here

-- a lawful path that extends p is p or extends a child of p
pub child-or-self : (b : Block) (p w : List Bool) → lawful b w ≡ true → is_prefix p w ≡ true → 1 ≤ leading p w (allowed b.kind p) + cond (same w p) 1 0
child-or-self b p w e h = let (r, q) = prefix-split p w h in go r q
  where
    go : (r : List Bool) → w ≡ p ++ r → 1 ≤ leading p w (allowed b.kind p) + cond (same w p) 1 0
    go [] q = let k : same w p ≡ true = ap (λ x. same x p) (q ∙ append-nil p) ∙ same_refl p in rw k (omega arith)
    go (u ∷ r) q = let k : 1 ≤ leading p (p ++ (u ∷ r)) (allowed b.kind p) = children-cover (b.kind (length p)) (parity_bit b.kind p (length p)) p u r (goes_on b p u r (subst (λ x. lawful b x ≡ true) q e)) in let j : 1 ≤ leading p w (allowed b.kind p) = subst (λ x. 1 ≤ leading p x (allowed b.kind p)) (sym q) k in omega arith

-- a lawful path that extends a whole one is that one
pub whole-self : (b : Block) (p w : List Bool) → lawful b w ≡ true → length p ≡ b.size → is_prefix p w ≡ true → same w p ≡ true
whole-self b p w e whole h = let (r, q) = prefix-split p w h in go r q
  where
    go : (r : List Bool) → w ≡ p ++ r → same w p ≡ true
    go [] q = ap (λ x. same x p) (q ∙ append-nil p) ∙ same_refl p
    go (u ∷ r) q = let l = lawful-length b w e in let k : length w ≡ length p + length (u ∷ r) = ap length q ∙ length-append p (u ∷ r) in absurd (omega arith)

-- Costs

cost-grows : (b : Block) → BlockLaws b → (r p : List Bool) → length (p ++ r) ≤ b.size → b.cost p ≤ b.cost (p ++ r)
cost-grows b laws [] p h = rw (append-nil p) (omega arith)
cost-grows b laws (u ∷ r) p h =
    let q : child p u ++ r ≡ p ++ (u ∷ r) = append_assoc p (u ∷ []) r in
    let len = length-append p (u ∷ r) in
    let first = laws.rises p u (omega arith) in
    let more : b.cost (child p u) ≤ b.cost (p ++ (u ∷ r)) = subst (λ x. b.cost (child p u) ≤ b.cost x) q (cost-grows b laws r (child p u) (subst (λ x. length x ≤ b.size) (sym q) h)) in
    omega arith

pub prefix-costs : (b : Block) → BlockLaws b → (p w : List Bool) → is_prefix p w ≡ true → lawful b w ≡ true → b.cost p ≤ b.cost w
prefix-costs b laws p w h e = let (r, q) = prefix-split p w h in let l = lawful-length b w e in subst (λ x. b.cost p ≤ b.cost x) (sym q) (cost-grows b laws r p (subst (λ x. length x ≤ b.size) q l))

-- Beginnings

-- no beginning of the path is hopeless
abbrev pub Hopeful : Block → List Bool → Type 0
Hopeful b w = (p r : List Bool) → w ≡ p ++ r → b.hopeless (information_bits b p) ≡ false

information-append : (kind : ℕ → Kind) (i : ℕ) (p r : List Bool) → (rest : List Bool) × (information_from kind i (p ++ r) ≡ information_from kind i p ++ rest)
information-append kind i [] r = (information_from kind i r, refl)
information-append kind i (u ∷ p) r = let (rest, e) = information-append kind (suc i) p r in (rest, go rest e (is_information (kind i)))
  where
    go : (rest : List Bool) → information_from kind (suc i) (p ++ r) ≡ information_from kind (suc i) p ++ rest → (t : Bool) → cond t (u ∷ information_from kind (suc i) (p ++ r)) (information_from kind (suc i) (p ++ r)) ≡ cond t (u ∷ information_from kind (suc i) p) (information_from kind (suc i) p) ++ rest
    go rest e true = ap {B = List Bool} (λ x. u ∷ x) e
    go rest e false = e

information-length : (kind : ℕ → Kind) (w : List Bool) (i : ℕ) → length (information_from kind i w) + count_below (λ j. is_information (kind j)) i ≡ count_below (λ j. is_information (kind j)) (i + length w)
unfolding count_below
information-length kind [] i = rw (add-zero i) (omega arith)
information-length kind (u ∷ w) i = let h = information-length kind w (suc i) in let k : suc i + length w ≡ i + suc (length w) = omega arith in go (is_information (kind i)) refl (subst (λ n. length (information_from kind (suc i) w) + count_below (λ j. is_information (kind j)) (suc i) ≡ count_below (λ j. is_information (kind j)) n) k h)
  where
    go : (t : Bool) → is_information (kind i) ≡ t → length (information_from kind (suc i) w) + (count_below (λ j. is_information (kind j)) i + cond (is_information (kind i)) 1 0) ≡ count_below (λ j. is_information (kind j)) (i + suc (length w)) → length (cond (is_information (kind i)) (u ∷ information_from kind (suc i) w) (information_from kind (suc i) w)) + count_below (λ j. is_information (kind j)) i ≡ count_below (λ j. is_information (kind j)) (i + suc (length w))
    go true e h = rw e (let k = rw e at h in omega arith)
    go false e h = rw e (let k = rw e at h in omega arith)

pub admissible-hopeful : (b : Block) → BlockLaws b → (w : List Bool) → Admissible b w → Hopeful b w
unfolding count_below
admissible-hopeful b laws w a p r e =
    let (rest, q) = information-append b.kind 0 p r in
    let split : information_bits b w ≡ information_bits b p ++ rest = ap (information_bits b) e ∙ q in
    let size : 0 + length w ≡ b.size = let whole = a.whole in omega arith in
    let all : length (information_bits b w) + 0 ≡ information_count b = subst (λ n. length (information_bits b w) + 0 ≡ count_below (λ j. is_information (b.kind j)) n) size (information-length b.kind w 0) in
    let len : length (information_bits b w) ≡ information_count b = omega arith in
    laws.hopes (information_bits b p) rest (subst (λ x. length x ≡ information_count b) split len) (subst (λ x. b.accepted x ≡ true) split a.accepted)
