use Rattle.model.proofs.PositionsLemmas.{keyspace_after-cut_at-next, changes_at-append}
use Rattle.model.proofs.laws.changes_lead_from_position_to_position.Goals as goal

pub returns : goal.returns
returns c = record { next = keyspace_after-cut_at-next; stable = changes_at-append }
