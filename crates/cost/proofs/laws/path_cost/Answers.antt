use Rattle.cost.proofs.laws.path_cost.Goals as goal
use Rattle.cost.proofs.Values.{pair-identity}
use Rattle.cost.proofs.Path.{whole-path, never-falls, at-most-magnitudes, cost-fits, cost-looks-back}

pub returns : goal.returns
returns c =
    record {
      pair = pair-identity;
      whole = whole-path;
      rising = never-falls;
      most = at-most-magnitudes;
      fits = cost-fits;
      back = cost-looks-back;
    }
