-- Which of two candidates comes first, and that this is a strict total order. Assumes nothing.
use Rattle.std.specs.Prelude.{◌≡◌, ℕ, ◌≤◌, Bool, true, false, ◌&&◌, ◌||◌, ◌==◌, nat_lt}
use Rattle.std.specs.Ordering.{nat_cmp, on, flip_args, then_cmp}
use Rattle.std.specs.declared.cmp.Ordering.{Ordering}
use Rattle.store.specs.declared.candidate.Candidate.{Candidate}

-- x below y; where they are equal the rest decides
abbrev pub lex : ℕ → ℕ → Bool → Bool
lex x y rest = nat_lt x y || (x == y && rest)

-- smaller metric, then greater length, smaller serial, smaller row
unfoldable pub before : Candidate → Candidate → Bool
before a b =
    lex a.metric b.metric (lex b.length a.length (lex a.serial b.serial (nat_lt a.row b.row)))

-- the same as an order of Rust: a candidate that comes first is the lesser
abbrev pub compared : Candidate → Candidate → Ordering
compared =
    then_cmp (on (λ c. c.metric) nat_cmp)
    (then_cmp (flip_args (on (λ c. c.length) nat_cmp)) (then_cmp (on (λ c. c.serial) nat_cmp) (on (λ c. c.row) nat_cmp)))

abbrev pub NoneBeforeItself : Type 0
NoneBeforeItself = (a : Candidate) → before a a ≡ false

abbrev pub OrderCarriesOver : Type 0
OrderCarriesOver = (a b c : Candidate) → before a b ≡ true → before b c ≡ true → before a c ≡ true

abbrev pub UnorderedAreEqual : Type 0
UnorderedAreEqual = (a b : Candidate) → before a b ≡ false → before b a ≡ false → a ≡ b

abbrev pub EarlierCostsNoMore : Type 0
EarlierCostsNoMore = (a b : Candidate) → before b a ≡ false → a.metric ≤ b.metric
