-- Laying, position by position: word bits on information positions, then the parity sums, and that the outcome is lawful.
-- Assumes nothing; kinds are frozen beyond the block where a lemma says so.
use Rattle.std.proofs.Common.{◌≡◌, ℕ, zero, suc, ◌+◌, ◌-◌, ◌%◌, ◌<◌, ◌≤◌, Bool, true, false, cond, ◌&&◌, ◌||◌, eqb, ltb, List, [], ◌∷◌, ◌++◌, length, get_or, sym, refl, ap, ◌∙◌, inl, inr, arith, subst, length-append}
use Rattle.std.proofs.Math.Seq.{get_or-append_seam}
use Rattle.std.proofs.lemmas.List.{get_or_append_left, get_or_default, append-nil}
use Rattle.std.proofs.lemmas.List.Elements.{filter-append}
use Rattle.std.proofs.lemmas.List.Sums.{fold-append}
use Rattle.std.proofs.lemmas.Slice.Zip.{length-zip, get_or-zip}
use Rattle.std.specs.Bool.{xor}
use Rattle.std.specs.List.{filter, fold, range_with_len, zip}
use Rattle.std.proofs.lemmas.Bool.{cases_Bool, cases_eq, cases_lt, both_ways}
use Rattle.std.proofs.lemmas.Bool.Decides.{nat_tests}
use Rattle.base.specs.Counts.{count_below, xor_below}
use Rattle.base.proofs.Counts.{count-suc, count-zero}
use Rattle.base.proofs.Transform.{xor-below-same, xor-below-none}
use Rattle.bits.specs.Row.{set_bit}
use Rattle.plan.specs.Kinds.{is_information, is_parity}
use Rattle.plan.specs.declared.kind.Kind.{Kind}
use Rattle.plan.specs.declared.kind.Kind.TheVariants.{Frozen, Information, Parity}
use Rattle.code.proofs.First.{range_more}
use Rattle.code.specs.Laying.{word_bit_at, bit_of_kind, laid_bit}
use Rattle.code.specs.Lawful.{parity_sum, FrozenZero, ParitySummed}

pub count-grows : (p : ℕ → Bool) (m d : ℕ) → count_below p m ≤ count_below p (m + d)
count-grows p m zero =
    let e : m + 0 ≡ m = omega arith in
    rw e (omega arith)
count-grows p m (suc d) =
    let e : m + suc d ≡ suc (m + d) = omega arith in
    let front = count-grows p m d in
    let last = count-suc p (m + d) in
    rw e (omega arith)

-- a number with p below n is counted
count-passes : (p : ℕ → Bool) (i n : ℕ) → i < n → p i ≡ true → count_below p i < count_below p n
count-passes p i n l here =
    let e : n ≡ suc i + (n - suc i) = omega arith in
    let one : count_below p (suc i) ≡ count_below p i + 1 = count-suc p i ∙ ap (λ (b : Bool). count_below p i + cond b 1 0) here in
    let rest : count_below p (suc i) ≤ count_below p (suc i + (n - suc i)) = count-grows p (suc i) (n - suc i) in
    let same : count_below p n ≡ count_below p (suc i + (n - suc i)) = ap (count_below p) e in
    omega arith

-- word bits on information positions

-- number i is the one with p of which n come before
pub record Nth (p : ℕ → Bool) (m n i : ℕ) : Type 0 where
  pub below : i < m
  pub has : p i ≡ true
  pub count : count_below p i ≡ n

filtered-more : (p : ℕ → Bool) (m : ℕ) (b : Bool) → p m ≡ b
    → filter p (range_with_len 0 (suc m)) ≡ filter p (range_with_len 0 m) ++ cond b (m ∷ []) []
filtered-more p m b here =
    ap (filter p) (range_more 0 m m (omega arith)) ∙ filter-append p (range_with_len 0 m) (m ∷ [])
    ∙ ap (λ (c : Bool). filter p (range_with_len 0 m) ++ cond c (m ∷ []) []) here

filtered-length : (p : ℕ → Bool) (m : ℕ) → length (filter p (range_with_len 0 m)) ≡ count_below p m
filtered-length p zero = sym (count-zero p)
filtered-length p (suc m) =
    let xs = filter p (range_with_len 0 m) in
    let one : (b : Bool) → length (xs ++ cond b (m ∷ []) []) ≡ length xs + cond b 1 0 =
    λ b. length-append xs (cond b (m ∷ []) []) ∙ ap (λ (k : ℕ). length xs + k) (elim b as (λ c. length (cond c (m ∷ []) []) ≡ cond c 1 0) [ true ↦ refl | false ↦ refl ]) in
    ap length (filtered-more p m (p m) refl) ∙ one (p m) ∙ ap (λ (k : ℕ). k + cond (p m) 1 0) (filtered-length p m) ∙ sym (count-suc p m)

-- the numbers with p, in their order
nth-filtered : (p : ℕ → Bool) (m n d : ℕ) → n < length (filter p (range_with_len 0 m)) → Nth p m n (get_or (filter p (range_with_len 0 m)) n d)
nth-filtered p zero n d l = absurd (omega arith)
nth-filtered p (suc m) n d inside =
    let xs = filter p (range_with_len 0 m) in
    let front : n < length xs → Nth p (suc m) n (get_or xs n d) =
    λ l. let nth = nth-filtered p m n d l in record { below = (let h = nth.below in omega arith); has = nth.has; count = nth.count } in
    let P : List ℕ → Type 0 = λ (ys : List ℕ). n < length ys → Nth p (suc m) n (get_or ys n d) in
    let whole : P (filter p (range_with_len 0 (suc m))) =
    elim (cases_Bool (p m)) [
      | inl here ↦ subst P (sym (filtered-more p m true here)) (λ l.
          elim (cases_lt n (length xs)) [
            | inl few ↦ subst (Nth p (suc m) n) (sym (get_or_append_left xs (m ∷ []) d n few)) (front few)
            | inr g ↦
                let size = length-append xs (m ∷ []) in
                let last : n ≡ length xs = omega arith in
                subst (Nth p (suc m) n) (sym (ap (λ (k : ℕ). get_or (xs ++ (m ∷ [])) k d) last ∙ get_or-append_seam xs m [] d))
                (record { below = omega arith; has = here; count = sym (last ∙ filtered-length p m) })
          ])
      | inr here ↦ subst P (sym (filtered-more p m false here ∙ append-nil xs)) front
    ] in
    whole inside

-- number j is among the first n that have p
abbrev pub among : (p : ℕ → Bool) (n j : ℕ) → Bool
among p n j = ltb (count_below p j) n && p j

other-place : (p : ℕ → Bool) (i j n : ℕ) → count_below p i ≡ n → p i ≡ true → p j ≡ true → (j ≡ i → ⊥) → count_below p j ≡ n → ⊥
other-place p i j n at here there ne same =
    elim (cases_lt i j) [
      | inl l ↦ (let less = count-passes p i j l here in omega arith)
      | inr g ↦ elim (cases_eq j i) [
        | inl e ↦ ne e
        | inr m ↦ (let less = count-passes p j i (omega arith) there in omega arith)
      ]
    ]

among-more : (p : ℕ → Bool) (m n i : ℕ) → Nth p m n i → (j : ℕ) → among p (n + 1) j ≡ (eqb j i || among p n j)
among-more p m n i nth j =
    let has = nth.has in
    let count = nth.count in
    elim (cases_eq j i) [
      | inl e ↦
          let same : count_below p j ≡ n = ap (count_below p) e ∙ count in
          let here : p j ≡ true = ap p e ∙ has in
          grind (arith, nat_tests)
      | inr ne ↦ elim (cases_Bool (p j)) [
        | inl here ↦ (let other = other-place p i j n count has here ne in grind (arith, nat_tests))
        | inr out ↦ grind (arith, nat_tests)
      ]
    ]

among-all : (p : ℕ → Bool) (m n : ℕ) → n ≡ count_below p m → ((j : ℕ) → m ≤ j → p j ≡ false) → (j : ℕ) → among p n j ≡ p j
among-all p m n all beyond j =
    elim (cases_Bool (p j)) [
      | inl here ↦ elim (cases_lt j m) [
        | inl l ↦ (let passes = count-passes p j m l here in grind (arith, nat_tests))
        | inr g ↦ absurd (both_ways (p j) (beyond j g) here)
      ]
      | inr out ↦ grind (arith, nat_tests)
    ]

module _ (kinds : ℕ → Kind) (word : List Bool) where
  abbrev info : ℕ → Bool
  info j = is_information (kinds j)

  -- the first n information positions carry their word bits
  abbrev pub Placed : ℕ → (ℕ → Bool) → Type 0
  Placed n u = (j : ℕ) → u j ≡ (among info n j && word_bit_at kinds word j)

  pub placed-none : (u : ℕ → Bool) → ((j : ℕ) → u j ≡ false) → Placed 0 u
  placed-none u zeros j = zeros j ∙ grind (arith, nat_tests)

  -- one more position gets its bit
  pub placed-more : (m n i : ℕ) (bit : Bool) (u v : ℕ → Bool) → m ≤ 1024 → n < length (zip (filter info (range_with_len 0 m)) word)
      → ◌≡◌ {A = ℕ × Bool} (i, bit) (get_or (zip (filter info (range_with_len 0 m)) word) n (i, bit)) → Placed n u
      → ((j : ℕ) → v j ≡ set_bit u i bit j) → Placed (n + 1) v
  placed-more m n i bit u v most inside is placed set j =
      let ks = filter info (range_with_len 0 m) in
      let size = length-zip ks word in
      let l : n < length ks = omega arith in
      let k : n < length word = omega arith in
      let pair : ◌≡◌ {A = ℕ × Bool} (i, bit) (get_or ks n i, get_or word n bit) = is ∙ get_or-zip ks word n (i, bit) l k in
      let at : i ≡ get_or ks n i = ap (λ (q : ℕ × Bool). q.0) pair in
      let nth : Nth info m n i = subst (Nth info m n) (sym at) (nth-filtered info m n i l) in
      let below = nth.below in
      let more = among-more info m n i nth j in
      let was = placed j in
      let now-is = set j in
      elim (cases_eq j i) [
        | inl e ↦
            let mine : word_bit_at kinds word j ≡ bit =
            ap (λ (c : ℕ). get_or word c false) (ap (count_below info) e ∙ nth.count) ∙ get_or_default word n false bit k
            ∙ sym (ap (λ (q : ℕ × Bool). q.1) pair) in
            grind (arith, nat_tests)
        | inr ne ↦ grind (arith, nat_tests)
      ]

  pub placed-all : (m n : ℕ) (u : ℕ → Bool) → ((j : ℕ) → m ≤ j → kinds j ≡ Frozen) → n ≡ length (zip (filter info (range_with_len 0 m)) word)
      → length word ≡ count_below info m → Placed n u → (j : ℕ) → u j ≡ (info j && word_bit_at kinds word j)
  placed-all m n u beyond whole long placed j =
      let size = length-zip (filter info (range_with_len 0 m)) word in
      let some = filtered-length info m in
      placed j ∙ ap (λ (b : Bool). b && word_bit_at kinds word j) (among-all info m n (omega arith) (λ k g. ap is_information (beyond k g)) j)

-- parity sums

-- a sum modulo 2 over a range, bit by bit
pub xor_folded : (u : ℕ → Bool) (n : ℕ) → fold (λ sum j. xor sum (u j)) false (range_with_len 0 n) ≡ xor_below u n
unfolding xor_below
xor_folded u zero = refl
xor_folded u (suc n) =
    ap (fold (λ sum j. xor sum (u j)) false) (range_more 0 n n (omega arith)) ∙ fold-append (λ sum j. xor sum (u j)) false (range_with_len 0 n) (n ∷ [])
    ∙ ap (λ (sum : Bool). xor sum (u n)) (xor_folded u n)

-- a sum reads information positions alone
pub parity-same : (kinds : ℕ → Kind) (u v : ℕ → Bool) (i : ℕ) → ((j : ℕ) → is_information (kinds j) ≡ true → u j ≡ v j)
    → parity_sum kinds u i ≡ parity_sum kinds v i
parity-same kinds u v i same =
    xor-below-same (λ j. is_information (kinds j) && (eqb (j % 5) (i % 5) && u j)) (λ j. is_information (kinds j) && (eqb (j % 5) (i % 5) && v j)) i
    (λ j l. elim (cases_Bool (is_information (kinds j))) [
      | inl s ↦ ap (λ (b : Bool). is_information (kinds j) && (eqb (j % 5) (i % 5) && b)) (same j s)
      | inr s ↦ ap (λ (b : Bool). b && (eqb (j % 5) (i % 5) && u j)) s ∙ sym (ap (λ (b : Bool). b && (eqb (j % 5) (i % 5) && v j)) s)
    ])

information-carries : (k : Kind) → is_information k ≡ true → is_parity k ≡ false
information-carries Frozen h = refl
information-carries Information h = refl
information-carries Parity h = absurd (both_ways false refl h)

-- the first n parity positions hold their sums
abbrev pub Summed : (kinds : ℕ → Kind) (start : ℕ → Bool) (n : ℕ) (u : ℕ → Bool) → Type 0
Summed kinds start n u = (j : ℕ) → u j ≡ cond (among (λ i. is_parity (kinds i)) n j) (parity_sum kinds start j) (start j)

module _ (kinds : ℕ → Kind) (start : ℕ → Bool) where
  abbrev parities : ℕ → Bool
  parities j = is_parity (kinds j)

  same_sum : (n i : ℕ) (u : ℕ → Bool) → Summed kinds start n u → parity_sum kinds u i ≡ parity_sum kinds start i
  same_sum n i u summed =
      parity-same kinds u start i
      (λ j s. summed j ∙ let no-sum = information-carries (kinds j) s in grind (arith, nat_tests))

  pub summed-none : (u : ℕ → Bool) → ((j : ℕ) → u j ≡ start j) → Summed kinds start 0 u
  summed-none u same j = same j ∙ grind (arith, nat_tests)

  -- one more position gets its sum
  pub summed-more : (m n i : ℕ) (sum : Bool) (u v : ℕ → Bool) → m ≤ 1024 → n < length (filter parities (range_with_len 0 m))
      → i ≡ get_or (filter parities (range_with_len 0 m)) n i → Summed kinds start n u → sum ≡ parity_sum kinds u i
      → ((j : ℕ) → v j ≡ set_bit u i sum j) → Summed kinds start (n + 1) v
  summed-more m n i sum u v most inside at summed is set j =
      let nth : Nth parities m n i = subst (Nth parities m n) (sym at) (nth-filtered parities m n i inside) in
      let below = nth.below in
      let more = among-more parities m n i nth j in
      let was = summed j in
      let now-is = set j in
      elim (cases_eq j i) [
        | inl e ↦ (let goes : sum ≡ parity_sum kinds start j = is ∙ same_sum n i u summed ∙ sym (ap (parity_sum kinds start) e) in grind (arith, nat_tests))
        | inr ne ↦ grind (arith, nat_tests)
      ]

  pub summed-all : (m n : ℕ) (u : ℕ → Bool) → ((j : ℕ) → m ≤ j → kinds j ≡ Frozen) → n ≡ length (filter parities (range_with_len 0 m))
      → Summed kinds start n u → (j : ℕ) → u j ≡ cond (is_parity (kinds j)) (parity_sum kinds start j) (start j)
  summed-all m n u beyond whole summed j =
      let all : n ≡ count_below parities m = whole ∙ filtered-length parities m in
      summed j ∙ ap (λ (b : Bool). cond b (parity_sum kinds start j) (start j)) (among-all parities m n all (λ k g. ap is_parity (beyond k g)) j)

-- the laid word

by_kind : (k : Kind) (carried sum : Bool) → cond (is_parity k) sum (is_information k && carried) ≡ bit_of_kind k carried sum
by_kind Frozen carried sum = refl
by_kind Information carried sum = refl
by_kind Parity carried sum = refl

pub laid_both : (kinds : ℕ → Kind) (word : List Bool) (u v : ℕ → Bool)
    → ((j : ℕ) → u j ≡ (is_information (kinds j) && word_bit_at kinds word j))
    → ((j : ℕ) → v j ≡ cond (is_parity (kinds j)) (parity_sum kinds u j) (u j))
    → (j : ℕ) → v j ≡ laid_bit kinds word j
laid_both kinds word u v placed summed j =
    let sums : parity_sum kinds u j ≡ parity_sum kinds (word_bit_at kinds word) j =
    parity-same kinds u (word_bit_at kinds word) j (λ m s. placed m ∙ ap (λ (b : Bool). b && word_bit_at kinds word m) s) in
    summed j
    ∙ ap (λ (b : Bool). cond (is_parity (kinds j)) b (u j)) sums
    ∙ ap (cond (is_parity (kinds j)) (parity_sum kinds (word_bit_at kinds word) j)) (placed j)
    ∙ by_kind (kinds j) (word_bit_at kinds word j) (parity_sum kinds (word_bit_at kinds word) j)

-- the invariant of a laid word
pub record Fit (kinds : ℕ → Kind) (n : ℕ) (u : ℕ → Bool) : Type 0 where
  pub frozen : FrozenZero kinds n u
  pub parity : ParitySummed kinds n u
  pub beyond : (i : ℕ) → n ≤ i → u i ≡ false

information-bit : (k : Kind) (carried sum : Bool) → is_information k ≡ true → bit_of_kind k carried sum ≡ carried
information-bit Frozen carried sum h = absurd (both_ways false refl h)
information-bit Information carried sum h = refl
information-bit Parity carried sum h = absurd (both_ways false refl h)

pub laid-fit : (kinds : ℕ → Kind) (n : ℕ) (word : List Bool) (u : ℕ → Bool) → ((j : ℕ) → n ≤ j → kinds j ≡ Frozen)
    → ((j : ℕ) → u j ≡ laid_bit kinds word j) → Fit kinds n u
laid-fit kinds n word u beyond is =
    let sum : ℕ → Bool = parity_sum kinds (word_bit_at kinds word) in
    let at : (i : ℕ) (k : Kind) → kinds i ≡ k → u i ≡ bit_of_kind k (word_bit_at kinds word i) (sum i) =
    λ i k e. is i ∙ ap (λ (m : Kind). bit_of_kind m (word_bit_at kinds word i) (sum i)) e in
    record {
      frozen = λ i l e. at i Frozen e;
      parity = λ i l e. at i Parity e ∙ sym (parity-same kinds u (word_bit_at kinds word) i
          (λ j s. is j ∙ information-bit (kinds j) (word_bit_at kinds word j) (sum j) s));
      beyond = λ i g. at i Frozen (beyond i g);
    }

pub zero-fit : (kinds : ℕ → Kind) (n : ℕ) (u : ℕ → Bool) → ((j : ℕ) → u j ≡ false) → Fit kinds n u
zero-fit kinds n u zeros =
    record {
      frozen = λ i l e. zeros i;
      parity = λ i l e. zeros i ∙ sym (xor-below-none (λ j. is_information (kinds j) && (eqb (j % 5) (i % 5) && u j)) i
          (λ j m. let z = zeros j in grind (arith, nat_tests)));
      beyond = λ i g. zeros i;
    }
