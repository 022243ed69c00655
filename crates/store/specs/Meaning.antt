-- What emptying, putting and taking do to the kept list, and what the questions answer. Assumes nothing.
-- To shed an element is to throw it away. The floor is the least metric shed so far, absent until something has been.
use Rattle.std.specs.Prelude.{ℕ, min, max, Bool, false, ◌||◌, List, [], ◌∷◌, take, drop, Some, None, Option, ◌==◌}
use Rattle.store.specs.declared.candidate.Candidate.{Candidate}
use Rattle.store.specs.Lesser.{lesser_of}
use Rattle.store.specs.Ordered.{inserted}

-- what a put leaves kept, and what it sheds
pub record Left (X : Type 0) : Type 0 where
  pub stays : List X
  pub shed : List X

-- what a take answers, leaves kept and sheds
pub record Taken (X : Type 0) : Type 0 where
  pub answer : Option X
  pub stays : List X
  pub shed : List X

-- a capacity is held to 2 to 128
abbrev pub held_capacity : ℕ → ℕ
held_capacity n = min (max n 2) 128

-- the newcomer goes to its place; what then stands beyond the capacity is shed
abbrev pub puts : {X : Type 0} → (X → X → Bool) → ℕ → List X → X → Left X
puts before capacity kept c = record {
  stays = take capacity (inserted before kept c);
  shed = drop capacity (inserted before kept c);
}

-- a take answers the first, leaves the others, and sheds nothing
abbrev pub takes : {X : Type 0} → List X → Taken X
takes [] = record { answer = None; stays = []; shed = [] }
takes (c ∷ cs) = record { answer = Some c; stays = cs; shed = [] }

-- the lesser of the floor and of every metric shed
unfoldable pub lowered : {X : Type 0} → (X → ℕ) → Option ℕ → List X → Option ℕ
lowered metric floor [] = floor
lowered metric floor (x ∷ xs) = lesser_of (lowered metric floor xs) (Some (metric x))

abbrev pub metric_of : Candidate → ℕ
metric_of c = c.metric

abbrev pub first_metric : List Candidate → Option ℕ
first_metric [] = None
first_metric (c ∷ cs) = Some c.metric

unfoldable pub holds_row : ℕ → List Candidate → Bool
holds_row row [] = false
holds_row row (c ∷ cs) = c.row == row || holds_row row cs
