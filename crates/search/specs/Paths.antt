-- The paths of a block: which are lawful, what they carry and which whole ones are admissible. Assumes nothing.
-- A path is its bits, u0 first.
use Rattle.std.specs.Prelude.{◌≡◌, ℕ, zero, suc, ◌%◌, ◌<◌, ◌≤◌, Bool, true, false, cond, not, ◌&&◌, List, [], ◌∷◌, ◌++◌, map, length, ◌==◌, nat_le, slice_index_or}
use Rattle.std.specs.Bool.{beq}
use Rattle.base.specs.Counts.{all_below, count_below, xor_below}
use Rattle.search.specs.Lists.{count}

pub data Kind : Type 0 where
  frozen : Kind
  information : Kind
  parity : Kind

abbrev pub is_information : Kind → Bool
is_information frozen = false
is_information information = true
is_information parity = false

-- A loaded block as the search sees it. The check's parts are those for the plan's payload length.
pub record Block : Type 0 where
  -- N, the length of a word
  pub size : ℕ
  pub kind : ℕ → Kind
  -- the metric of a path
  pub cost : List Bool → ℕ
  -- the check's answer on the information bits of a word
  pub accepted : List Bool → Bool
  -- the check's answer on the first information bits: hopeless if no accepted word begins with them
  pub hopeless : List Bool → Bool
  pub payload_length : ℕ
  -- the payload, read out of the information bits of a word
  pub payload : List Bool → List Bool

-- the sum modulo 2 of the information bits before i at positions that leave i's remainder by 5
abbrev pub parity_bit : (ℕ → Kind) → List Bool → ℕ → Bool
parity_bit kind path i = xor_below (λ j. is_information (kind j) && (j % 5 == i % 5 && slice_index_or path j false)) i

-- whether bit u may stand at a position of the kind, where the parity sum is s
abbrev pub fitting : Kind → Bool → Bool → Bool
fitting frozen s u = not u
fitting information s u = true
fitting parity s u = beq u s

abbrev pub obeys : (ℕ → Kind) → List Bool → ℕ → Bool
obeys kind path i = fitting (kind i) (parity_bit kind path i) (slice_index_or path i false)

-- a path of length 0 to N whose frozen and parity positions obey the plan
abbrev pub lawful : Block → List Bool → Bool
lawful b path = nat_le (length path) b.size && all_below (obeys b.kind path) (length path)

-- the bits that may stand at a position of the kind, 0 before 1
abbrev pub choices : Kind → Bool → List Bool
choices frozen s = false ∷ []
choices information s = false ∷ true ∷ []
choices parity s = s ∷ []

-- the bits that may follow a path
abbrev pub allowed : (ℕ → Kind) → List Bool → List Bool
allowed kind path = choices (kind (length path)) (parity_bit kind path (length path))

abbrev pub child : List Bool → Bool → List Bool
child path u = path ++ (u ∷ [])

-- the bits at information positions of a path that starts at position i
abbrev pub information_from : (ℕ → Kind) → ℕ → List Bool → List Bool
information_from kind i [] = []
information_from kind i (u ∷ us) = cond (is_information (kind i)) (u ∷ information_from kind (suc i) us) (information_from kind (suc i) us)

abbrev pub information_bits : Block → List Bool → List Bool
information_bits b path = information_from b.kind 0 path

-- K, how many information positions a block has
abbrev pub information_count : Block → ℕ
information_count b = count_below (λ i. is_information (b.kind i)) b.size

pub record Admissible (b : Block) (word : List Bool) : Type 0 where
  pub whole : length word ≡ b.size
  pub lawful : lawful b word ≡ true
  pub accepted : b.accepted (information_bits b word) ≡ true

-- What the search asks of a block: a cost that starts at 0 and never falls, and a check that calls no beginning of
-- an accepted word hopeless.
pub record BlockLaws (b : Block) : Type 0 where
  pub start : b.cost [] ≡ 0
  pub rises : (path : List Bool) (u : Bool) → length path < b.size → b.cost path ≤ b.cost (child path u)
  pub hopes : (beginning rest : List Bool) → length (beginning ++ rest) ≡ information_count b → b.accepted (beginning ++ rest) ≡ true → b.hopeless beginning ≡ false

-- all paths of length 0 to n
unfoldable pub paths_up_to : ℕ → List (List Bool)
paths_up_to zero = [] ∷ []
paths_up_to (suc n) = [] ∷ (map (λ path. false ∷ path) (paths_up_to n) ++ map (λ path. true ∷ path) (paths_up_to n))

-- how many lawful paths, of any length, cost no more than n
abbrev pub lawful_within : Block → ℕ → ℕ
lawful_within b n = count (λ path. lawful b path && nat_le (b.cost path) n) (paths_up_to b.size)
