use Rattle.store.proofs.Accounts.{take-is-least-and-accounted}
use Rattle.store.proofs.laws.take_is_least_and_accounted.Goals as goal

pub returns : goal.returns
returns c = take-is-least-and-accounted
