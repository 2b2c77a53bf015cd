use Rattle.model.proofs.SizeLemmas.{changes_of_within, changes_at_within, changes_of_group_within}
use Rattle.model.proofs.laws.changes_stay_within_limits.Goals as goal

pub returns : goal.returns
returns c = record { call = changes_of_within; position = changes_at_within; group = changes_of_group_within }
