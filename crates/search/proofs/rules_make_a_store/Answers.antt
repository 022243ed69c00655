use Rattle.search.proofs.Rules.{rules-make-a-store, rules-keep-capacity}
use Rattle.search.proofs.rules_make_a_store.Goals as goal

pub returns : goal.returns
returns c = record { store = rules-make-a-store; capacity = rules-keep-capacity }
