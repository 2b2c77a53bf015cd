use Rattle.wbl_migrate.proofs.EndedLawful.{copied_consistent, copied_lawful, moved_consistent, moved_lawful}
use Rattle.wbl_migrate.proofs.ended.moving_what_has_ended_keeps_contents_lawful.Goals as goal

pub returns-clause-lawful : goal.returns-clause-lawful
returns-clause-lawful c contents from to to_line version may are = (copied_lawful may are, moved_lawful may are)

pub returns-clause-consistent : goal.returns-clause-consistent
returns-clause-consistent c contents from to to_line version may are = (copied_consistent may are, moved_consistent may are)
