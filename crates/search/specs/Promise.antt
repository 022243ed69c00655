-- The promise of the search over every run: nothing cheaper is hidden, what is shown is admissible, exact, in order and
-- shown once, and its steps are bounded. Assumes of stores and of granted blocks their laws alone.
use Rattle.std.specs.Prelude.{◌≡◌, ℕ, ◌≤◌, Bool, List, [], ◌∷◌, Some, None, Option, ◌≢◌}
use Rattle.search.specs.Lists.{Among, Each}
use Rattle.search.specs.Paths.{Block, Admissible, lawful_within}
use Rattle.search.specs.Stores.{Store, Reaches}
use Rattle.search.specs.Calls.{Call, Report, Blank, Figures, Answer, Reported}
use Rattle.search.specs.Search.{called}
use Rattle.search.specs.Records.{Entry, Session, Showing, recorded, after, session, words_of, LawfulCalls}

-- P holds of each shown word, given those shown before it; latest first
abbrev pub EachShown : (Showing → List Showing → Type 0) → List Showing → Type 0
EachShown P [] = Unit {0}
EachShown P (s ∷ earlier) = P s earlier × EachShown P earlier

-- Nothing cheaper is hidden

-- Every admissible word not shown since the load costs at least the reported bound; without a bound none is left.
abbrev pub NoneLeftBelow : Session → Figures → Type 0
NoneLeftBelow s r = (word : List Bool) → Admissible s.block word → (Among word (words_of s.showings) → ⊥) → Reaches (s.block.cost word) r.bound

-- the floor is absent or no less than n
abbrev pub NotBelow : Option ℕ → ℕ → Type 0
NotBelow None n = Unit {0}
NotBelow (Some floor) n = n ≤ floor

-- If the floor reported with a shown word is absent or no less than its cost, every other admissible word not shown
-- before it costs at least as much.
abbrev pub Cheapest : Block → Showing → List Showing → Type 0
Cheapest b s earlier = NotBelow s.report.floor (b.cost s.word) → (other : List Bool) → Admissible b other → (other ≢ s.word) → (Among other (words_of earlier) → ⊥) → b.cost s.word ≤ b.cost other

pub record NothingCheaperHidden (entries : List Entry) (report_then : Answer) : Type 0 where
  pub left : (s : Session) → session entries ≡ Some s → (r : Figures) → report_then ≡ Reported r → NoneLeftBelow s r
  pub cheapest : (s : Session) → session entries ≡ Some s → EachShown (Cheapest s.block) s.showings

-- What is shown is admissible, exact, in order and shown once

pub record Faithful (b : Block) (s : Showing) (earlier : List Showing) : Type 0 where
  pub admissible : Admissible b s.word
  pub metric : s.report.shown ≡ Some (b.cost s.word)
  pub in_order : Each (λ e. b.cost e.word ≤ b.cost s.word) earlier
  pub once : Among s.word (words_of earlier) → ⊥

abbrev pub ShownFaithfully : List Entry → Answer → Type 0
ShownFaithfully entries report_then = (s : Session) → session entries ≡ Some s → EachShown (Faithful s.block) s.showings

-- The steps reported with a shown word are at most the lawful paths, of any length, that cost no more than it

abbrev pub FewSteps : Block → Showing → List Showing → Type 0
FewSteps b s earlier = s.report.steps ≤ lawful_within b (b.cost s.word)

abbrev pub StepsBounded : List Entry → Answer → Type 0
StepsBounded entries report_then = (s : Session) → session entries ≡ Some s → EachShown (FewSteps s.block) s.showings

-- All of it, of the record of a run and of what a report would answer then

pub record Promise (entries : List Entry) (report_then : Answer) : Type 0 where
  pub hidden : NothingCheaperHidden entries report_then
  pub faithful : ShownFaithfully entries report_then
  pub steps : StepsBounded entries report_then

-- P holds after every list of calls to a new decoder, whatever its store keeps. Every beginning of a list is a list:
-- so it holds after every call.
abbrev pub OfEveryRun : {S : Type 0} → Store S → (List Entry → Answer → Type 0) → Type 0
OfEveryRun {S} m P = (s : S) (calls : List Call) → LawfulCalls calls → P (recorded m (Blank s) calls) (called m (after m (Blank s) calls) Report).1
