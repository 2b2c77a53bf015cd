use Rattle.wbl_migrate.proofs.EndedMaps.{copied_map, moved_map}
use Rattle.wbl_migrate.proofs.ended.moving_what_has_ended_keeps_the_map.Goals as goal

pub returns-clause-copied : goal.returns-clause-copied
returns-clause-copied c contents from to to_line version may s = copied_map may s

pub returns-clause-moved : goal.returns-clause-moved
returns-clause-moved c contents from to to_line version may s = moved_map may s
