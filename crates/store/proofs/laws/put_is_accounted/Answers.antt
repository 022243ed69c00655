use Rattle.store.proofs.Accounts.{put-is-accounted}
use Rattle.store.proofs.laws.put_is_accounted.Goals as goal

pub returns : goal.returns
returns c = put-is-accounted
