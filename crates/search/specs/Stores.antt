-- Candidates, their order and their stores: the store of the rules, and all that the search asks of a store.
-- A candidate holds its path where the program holds the number of a row. Assumes nothing.
use Rattle.std.specs.Prelude.{◌≡◌, ℕ, ◌≤◌, min, max, Bool, cond, ◌&&◌, ◌||◌, ◌⊎◌, List, [], ◌∷◌, length, Some, None, Option, ◌==◌, nat_le, nat_lt}
use Rattle.search.specs.Lists.{count, Among, Each}

pub record Candidate : Type 0 where
  pub metric : ℕ
  pub length : ℕ
  pub serial : ℕ
  pub path : List Bool

-- smaller metric first, then greater length, then smaller serial
abbrev pub before : Candidate → Candidate → Bool
before a b = nat_lt a.metric b.metric || (a.metric == b.metric && (nat_lt b.length a.length || (b.length == a.length && nat_lt a.serial b.serial)))

abbrev pub lesser : Option ℕ → Option ℕ → Option ℕ
lesser None b = b
lesser (Some m) None = Some m
lesser (Some m) (Some n) = Some (min m n)

abbrev pub first_metric : List Candidate → Option ℕ
first_metric [] = None
first_metric (c ∷ cs) = Some c.metric

-- What a store is to the search, whatever memory S it is made of. The floor is the least metric that it has shed,
-- that is thrown out for want of room, and absent until then. Taking answers the first kept candidate.
pub record Store (S : Type 0) : Type 0 where
  pub kept : S → List Candidate
  pub capacity : S → ℕ
  pub floor : S → Option ℕ
  pub emptied : S → ℕ → S
  pub put : S → Candidate → S
  pub taken : S → S

-- The store of the rules

pub record Contents : Type 0 where
  pub kept : List Candidate
  pub capacity : ℕ
  pub floor : Option ℕ

abbrev pub inserted : List Candidate → Candidate → List Candidate
inserted [] c = c ∷ []
inserted (x ∷ xs) c = cond (before x c) (x ∷ inserted xs c) (c ∷ x ∷ xs)

abbrev pub all_but_last : List Candidate → List Candidate
all_but_last [] = []
all_but_last (x ∷ []) = []
all_but_last (x ∷ (y ∷ ys)) = x ∷ all_but_last (y ∷ ys)

abbrev pub last_metric : List Candidate → Option ℕ
last_metric [] = None
last_metric (x ∷ []) = Some x.metric
last_metric (x ∷ (y ∷ ys)) = last_metric (y ∷ ys)

-- a capacity is held to 2 to 128
abbrev pub held_capacity : ℕ → ℕ
held_capacity n = max 2 (min n 128)

abbrev pub emptied_to : ℕ → Contents
emptied_to n = record { kept = []; capacity = held_capacity n; floor = None }

abbrev pub keeping_all : Contents → Candidate → Contents
keeping_all s c = record { kept = inserted s.kept c; capacity = s.capacity; floor = s.floor }

abbrev pub shedding_last : Contents → Candidate → Contents
shedding_last s c = record { kept = all_but_last (inserted s.kept c); capacity = s.capacity; floor = lesser s.floor (last_metric (inserted s.kept c)) }

abbrev pub put_into : Contents → Candidate → Contents
put_into s c = cond (nat_lt (length s.kept) s.capacity) (keeping_all s c) (shedding_last s c)

abbrev pub behind_first : List Candidate → List Candidate
behind_first [] = []
behind_first (c ∷ cs) = cs

abbrev pub taken_from : Contents → Contents
taken_from s = record { kept = behind_first s.kept; capacity = s.capacity; floor = s.floor }

abbrev pub ruled : Store Contents
ruled = record { kept = λ s. s.kept; capacity = λ s. s.capacity; floor = λ s. s.floor; emptied = λ s n. emptied_to n; put = put_into; taken = taken_from }

-- What the search asks of a store

-- a cost of n is no less than the bound; an absent bound nothing reaches
abbrev pub Reaches : ℕ → Option ℕ → Type 0
Reaches n None = ⊥
Reaches n (Some bound) = bound ≤ n

-- each costs no more than those after it, so that the first is least
abbrev pub InOrder : List Candidate → Type 0
InOrder [] = Unit {0}
InOrder (c ∷ cs) = Each (λ d. c.metric ≤ d.metric) cs × InOrder cs

-- from the candidates at hand to those kept after: nothing is new or kept more often, what is lost costs no less than
-- the floor, and the floor never rises
pub record Keeps (at_hand : List Candidate) (floor : Option ℕ) (after : List Candidate) (floor_after : Option ℕ) : Type 0 where
  pub only : (p : Candidate → Bool) → count p after ≤ count p at_hand
  pub lost : (c : Candidate) → Among c at_hand → Among c after ⊎ Reaches c.metric floor_after
  pub falls : (n : ℕ) → Reaches n floor → Reaches n floor_after

-- Putting has the newcomer and all that were kept at hand, taking all but the first.
pub record StoreLaws {S : Type 0} (store : Store S) : Type 0 where
  pub empty : (s : S) (n : ℕ) → (store.kept (store.emptied s n) ≡ []) × (store.floor (store.emptied s n) ≡ None)
  pub puts : (s : S) (c : Candidate) → Keeps (c ∷ store.kept s) (store.floor s) (store.kept (store.put s c)) (store.floor (store.put s c))
  pub takes : (s : S) → Keeps (behind_first (store.kept s)) (store.floor s) (store.kept (store.taken s)) (store.floor (store.taken s))
  pub put-in-order : (s : S) (c : Candidate) → InOrder (store.kept s) → InOrder (store.kept (store.put s c))
  pub taken-in-order : (s : S) → InOrder (store.kept s) → InOrder (store.kept (store.taken s))

-- What the search asks besides where a clean word is to come first: the capacity stays what emptying made it, and a put
-- never sheds the one candidate that is cheaper than all others at hand.
pub record CapacityLaws {S : Type 0} (store : Store S) : Type 0 where
  pub emptied : (s : S) (n : ℕ) → store.capacity (store.emptied s n) ≡ held_capacity n
  pub put : (s : S) (c : Candidate) → store.capacity (store.put s c) ≡ store.capacity s
  pub taken : (s : S) → store.capacity (store.taken s) ≡ store.capacity s
  pub cheapest : (s : S) (c x : Candidate) → 2 ≤ store.capacity s → InOrder (store.kept s) → Among x (c ∷ store.kept s) → count (λ y. nat_le y.metric x.metric) (c ∷ store.kept s) ≡ 1 → Among x (store.kept (store.put s c))
