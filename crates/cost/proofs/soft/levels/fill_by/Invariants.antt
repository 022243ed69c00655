use Rattle.std.proofs.Common.{◌≡◌, ℕ, suc, ◌^◌, ◌<◌, ◌≤◌, ℤ, nat_abs}
use Rattle.cost.specs.Levels.{Filled, level, paired}
use Rattle.cost.proofs.soft.levels.fill_by.Given as goal

abbrev pub invariant-loop-k : goal.invariant-loop-k
invariant-loop-k g l =
    ((j : ℕ) → level l.scratch (suc l.m) j ≡ level l.initial.scratch (suc l.m) j)
    × ((value : ℕ → ℤ → ℤ → ℤ)
    → ((k : ℕ) (a b v : ℤ) → k < 2 ^ l.m → nat_abs a ≤ 2 ^ 29 → nat_abs b ≤ 2 ^ 29 → goal.F-post g l.rule k a b v → v ≡ value k a b)
    → Filled (2 ^ l.m) l.k (paired l.m value l.initial.scratch) l.initial.scratch l.scratch)
