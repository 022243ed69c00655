-- That the order of candidates is strict and total, and goes by the metric first. Assumes nothing.
use Rattle.std.proofs.Common.{◌≡◌, ℕ, Bool, true, ltb, nat_lt, ap, ◌∙◌, arith}
use Rattle.std.proofs.lemmas.Bool.Decides.{nat_tests}
use Rattle.store.specs.declared.candidate.Candidate.{Candidate}
use Rattle.store.proofs.Inserts.{Strict}
use Rattle.std.specs.Ordering.{is_gt, is_lt, nat_cmp, ordering_then}
use Rattle.std.specs.declared.cmp.Ordering.{Ordering}
use Rattle.store.specs.Order.{lex, before, compared, NoneBeforeItself, OrderCarriesOver, UnorderedAreEqual, EarlierCostsNoMore}

-- the lesser comes first
lt-then : (x y : ℕ) (o : Ordering) → is_lt (ordering_then (nat_cmp x y) o) ≡ lex x y (is_lt o)
lt-then x y o = grind (arith, nat_tests)

lt-nat : (x y : ℕ) → is_lt (nat_cmp x y) ≡ nat_lt x y
lt-nat x y = grind (arith, nat_tests)

pub lesser-before : (a b : Candidate) → is_lt (compared a b) ≡ before a b
unfolding before
lesser-before a b =
    lt-then a.metric b.metric _
    ∙ ap (lex a.metric b.metric) (lt-then b.length a.length _ ∙ ap (lex b.length a.length) (lt-then a.serial b.serial _ ∙ ap (lex a.serial b.serial) (lt-nat a.row b.row)))

gt-then : (x y : ℕ) (o : Ordering) → is_gt (ordering_then (nat_cmp x y) o) ≡ lex y x (is_gt o)
gt-then x y o = grind (arith, nat_tests)

gt-nat : (x y : ℕ) → is_gt (nat_cmp x y) ≡ nat_lt y x
gt-nat x y = grind (arith, nat_tests)

pub greater-before : (a b : Candidate) → is_gt (compared a b) ≡ before b a
unfolding before
greater-before a b =
    gt-then a.metric b.metric _
    ∙ ap (lex b.metric a.metric) (gt-then b.length a.length _ ∙ ap (lex a.length b.length) (gt-then a.serial b.serial _ ∙ ap (lex b.serial a.serial) (gt-nat a.row b.row)))

pub none-before-itself : NoneBeforeItself
unfolding before
none-before-itself a = grind (arith, nat_tests)

lex-carries-over :
    (x y z : ℕ) (r s t : Bool) → (r ≡ true → s ≡ true → t ≡ true) → lex x y r ≡ true → lex y z s ≡ true
    → lex x z t ≡ true
lex-carries-over x y z r s t h p q = grind (arith, nat_tests)

abbrev by_row : Candidate → Candidate → Bool
by_row a b = ltb a.row b.row

abbrev by-serial : Candidate → Candidate → Bool
by-serial a b = lex a.serial b.serial (by_row a b)

abbrev by_length : Candidate → Candidate → Bool
by_length a b = lex b.length a.length (by-serial a b)

row-carries-over : (a b c : Candidate) → by_row a b ≡ true → by_row b c ≡ true → by_row a c ≡ true
row-carries-over a b c p q = grind (arith, nat_tests)

serial-carries-over : (a b c : Candidate) → by-serial a b ≡ true → by-serial b c ≡ true → by-serial a c ≡ true
serial-carries-over a b c =
    lex-carries-over a.serial b.serial c.serial (by_row a b) (by_row b c) (by_row a c) (row-carries-over a b c)

length-carries-over : (a b c : Candidate) → by_length a b ≡ true → by_length b c ≡ true → by_length a c ≡ true
length-carries-over a b c p q =
    lex-carries-over c.length b.length a.length (by-serial b c) (by-serial a b) (by-serial a c) (λ q p. serial-carries-over a b c p q) q p

pub order-carries-over : OrderCarriesOver
unfolding before
order-carries-over a b c =
    lex-carries-over a.metric b.metric c.metric (by_length a b) (by_length b c) (by_length a c) (length-carries-over a b c)

pub earlier-costs-no-more : EarlierCostsNoMore
unfolding before
earlier-costs-no-more a b p = grind (arith, nat_tests)

abbrev of-numbers : ℕ → ℕ → ℕ → ℕ → Candidate
of-numbers m l s r = record { metric = m; length = l; serial = s; row = r }

pub unordered-are-equal : UnorderedAreEqual
unfolding before
unordered-are-equal a b p q =
    let m : a.metric ≡ b.metric = grind (arith, nat_tests) in
    let l : a.length ≡ b.length = grind (arith, nat_tests) in
    let s : a.serial ≡ b.serial = grind (arith, nat_tests) in
    let r : a.row ≡ b.row = grind (arith, nat_tests) in
    let e : of-numbers a.metric a.length a.serial a.row ≡ of-numbers b.metric b.length b.serial b.row = cc in
    e

-- the order as the lemmas on lists want it
pub strict : Strict before
strict = record {
  irreflexive = none-before-itself;
  transitive = order-carries-over;
  total = unordered-are-equal;
}
