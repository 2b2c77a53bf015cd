use Rattle.model.proofs.GroupsLemmas.{IsMapOf-after_group, IsConsistent-after_group}
use Rattle.model.proofs.laws.map_moves_by_the_group.Goals as goal

pub returns : goal.returns
returns c = record { map = IsMapOf-after_group; consistent = IsConsistent-after_group }
