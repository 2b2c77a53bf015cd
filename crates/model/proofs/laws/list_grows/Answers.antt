use Rattle.model.proofs.CallsLemmas.{IsLegal-push, IsLegal-prefix, state_after-push, keyspace_after-push, position_of-push}
use Rattle.model.proofs.laws.list_grows.Goals as goal

pub returns : goal.returns
returns c = record { legal = IsLegal-push; prefix = IsLegal-prefix; state = state_after-push; keyspace = keyspace_after-push; position = position_of-push }
