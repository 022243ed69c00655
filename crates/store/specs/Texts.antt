-- A candidate as a line of output holds it. Assumes nothing.
use Rattle.std.specs.Prelude.{ℕ, List, ◌++◌, codes, decimal}
use Rattle.store.specs.declared.candidate.Candidate.{Candidate}

abbrev pub candidate_text : Candidate → List ℕ
candidate_text c =
    decimal c.metric ++ (codes ":" ++ (decimal c.length ++ (codes ":" ++ (decimal c.serial ++ (codes ":" ++ decimal c.row)))))
