-- Sums of received values: their bounds, and one more value added onto its place. Assumes nothing.
use Rattle.std.proofs.Common.{◌≡◌, ℕ, zero, suc, ◌+◌, ◌*◌, ◌^◌, ◌<◌, ◌≤◌, Bool, true, false, cond, eqb, List, length, set, ℤ, pos, negsuc, ◌+ℤ◌, ◌≤ℤ◌, sym, refl, ap, ◌∙◌, subst, inl, inr, add-one, arith, lit<, w32, SFits, to_z, of_z}
use lib.IntN.{+ℤ_idr, +ℤ_assoc}
use Rattle.std.proofs.lemmas.List.{get_or-set_same, get_or-set_other}
use Rattle.std.proofs.lemmas.Int.{ints, to_z-of_z}
use Rattle.std.proofs.lemmas.Bool.{cond_both, cases_eq, eq-eqb, ne_eqb}
use Rattle.std.proofs.lemmas.Bool.Decides.{nat_tests}
use Rattle.code.specs.Recovery.{total_below, value_at, beyond}

-- a number from −m to m
pub record Spans (m : ℕ) (z : ℤ) : Type 0 where
  pub low : pos 0 ≤ℤ (z +ℤ pos m)
  pub high : z ≤ℤ pos m

pub within-spans : (z : ℤ) → beyond z ≡ false → Spans 4095 z
within-spans z h = record { low = grind (arith, ints, nat_tests); high = grind (arith, ints, nat_tests) }

pub spans-fits : (z : ℤ) (m : ℕ) → Spans m z → m < 2 ^ 31 → SFits w32 z
spans-fits (pos n) m s l =
    let h = s.high in
    let few : n ≤ m = omega (arith, ints) in
    record { sfits = omega arith }
spans-fits (negsuc n) m s l =
    let h = s.low in
    let few : n < m = omega (arith, ints) in
    record { sfits = omega arith }

pub zero-spans : (m : ℕ) → Spans m (pos 0)
zero-spans m = record { low = omega (arith, ints); high = omega (arith, ints) }

-- n values are no greater together than n times the greatest
pub total-spans : (f : ℕ → ℤ) (n : ℕ) → ((k : ℕ) → k < n → Spans 4095 (f k)) → Spans (4095 * n) (total_below f n)
unfolding total_below
total-spans f zero h = record { low = omega (arith, ints); high = omega (arith, ints) }
total-spans f (suc n) h =
    let front = total-spans f n (λ k l. h k (omega arith)) in
    let last = h n (omega arith) in
    record { low = omega (arith, ints); high = omega (arith, ints) }

pub total-start : (f : ℕ → ℤ) → total_below f 0 ≡ pos 0
unfolding total_below
total-start f = refl

pub total-more : (f : ℕ → ℤ) (n : ℕ) → total_below f (n + 1) ≡ total_below f n +ℤ f n
unfolding total_below
total-more f n = rw (add-one, total_below)

pub total-none : (f : ℕ → ℤ) (n : ℕ) → ((k : ℕ) → k < n → f k ≡ pos 0) → total_below f n ≡ pos 0
unfolding total_below
total-none f zero h = refl
total-none f (suc n) h =
    let front = total-none f n (λ k l. h k (omega arith)) in
    let last = h n (omega arith) in
    rw (front, last)

-- the values that were sent for place i, over the places of the sent bits
abbrev pub share : (places : ℕ → ℕ) (values : ℕ → ℤ) → (i k : ℕ) → ℤ
share places values i k = cond (eqb (places k) i) (values k) (pos 0)

-- every place holds its start and the first k values that were sent for it
abbrev pub Added : (places : ℕ → ℕ) (values : ℕ → ℤ) (start : List ℤ) (k : ℕ) (llrs : List ℤ) → Type 0
Added places values start k llrs = (i : ℕ) → i < length start → value_at llrs i ≡ value_at start i +ℤ total_below (share places values i) k

module _ (places : ℕ → ℕ) (values : ℕ → ℤ) (start : List ℤ) where
  pub added_none : Added places values start 0 start
  added_none i l = sym (ap (λ (z : ℤ). value_at start i +ℤ z) (total-start (share places values i)) ∙ +ℤ_idr (value_at start i))

  pub added_more : (k p : ℕ) (x : ℤ) (llrs : List ℤ) → length llrs ≡ length start → p ≡ places k → p < length start
      → x ≡ value_at llrs p +ℤ values k → Added places values start k llrs → Added places values start (k + 1) (set llrs p x)
  added_more k p x llrs same is inside sum added i l =
      let more = total-more (share places values i) k in
      let was = added i l in
      elim (cases_eq i p) [
        | inl e ↦
            let hit : eqb (places k) i ≡ true = eq-eqb (places k) i (sym (e ∙ is)) in
            let mine : share places values i k ≡ values k = ap (λ (b : Bool). cond b (values k) (pos 0)) hit in
            let put : value_at (set llrs p x) i ≡ x = ap (value_at (set llrs p x)) e ∙ get_or-set_same llrs p x (pos 0) (omega arith) in
            let old : value_at llrs p ≡ value_at llrs i = ap (value_at llrs) (sym e) in
            put ∙ sum ∙ ap (λ (z : ℤ). z +ℤ values k) (old ∙ was)
            ∙ +ℤ_assoc (value_at start i) (total_below (share places values i) k) (values k)
            ∙ ap (λ (z : ℤ). value_at start i +ℤ (total_below (share places values i) k +ℤ z)) (sym mine)
            ∙ ap (λ (z : ℤ). value_at start i +ℤ z) (sym more)
        | inr ne ↦
            let miss : eqb (places k) i ≡ false = ne_eqb (places k) i (λ e. ne (sym e ∙ sym is)) in
            let none : share places values i k ≡ pos 0 = ap (λ (b : Bool). cond b (values k) (pos 0)) miss in
            get_or-set_other llrs p i x (pos 0) ne ∙ was
            ∙ ap (λ (z : ℤ). value_at start i +ℤ z)
            (sym (more ∙ ap (λ (z : ℤ). total_below (share places values i) k +ℤ z) none ∙ +ℤ_idr (total_below (share places values i) k)))
      ]

  -- no sum wraps: each of the values is small and they are few
  pub added-fits : (k p : ℕ) (llrs : List ℤ) → Added places values start k llrs → p < length start → Spans 1048576 (value_at start p)
      → ((j : ℕ) → j < k + 1 → Spans 4095 (values j)) → k < 8192 → SFits w32 (value_at llrs p +ℤ values k)
  added-fits k p llrs added inside first small few =
      let total = total-spans (share places values p) k
      (λ j l. cond_both (eqb (places j) p) (values j) (pos 0) (Spans 4095) (λ _. small j (omega arith)) (λ _. zero-spans 4095)) in
      let last = small k (omega arith) in
      subst (λ z. SFits w32 (z +ℤ values k)) (sym (added p inside))
      (spans-fits (value_at start p +ℤ total_below (share places values p) k +ℤ values k) 40000000
      (record { low = omega (arith, ints); high = omega (arith, ints) }) (lit< tt))

-- a sum as the code has it, through the bits of its parts
pub sum-read : (a v read : ℤ) → read ≡ v → SFits w32 a → SFits w32 v → to_z w32 (of_z w32 a) +ℤ to_z w32 (of_z w32 read) ≡ a +ℤ v
sum-read a v read is fa fv =
    ap (λ (z : ℤ). z +ℤ to_z w32 (of_z w32 read)) (to_z-of_z w32 a fa)
    ∙ ap (λ (z : ℤ). a +ℤ to_z w32 (of_z w32 z)) is
    ∙ ap (λ (z : ℤ). a +ℤ z) (to_z-of_z w32 v fv)
