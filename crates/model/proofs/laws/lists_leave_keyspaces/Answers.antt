use Rattle.model.proofs.CallsLemmas.{IsKeyspace-keyspace_after}
use Rattle.model.proofs.laws.lists_leave_keyspaces.Goals as goal

pub returns : goal.returns
returns c = IsKeyspace-keyspace_after
