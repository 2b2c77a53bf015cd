use Rattle.wbl_engine.proofs.ShownContents.{shown_consistent}
use Rattle.wbl_migrate.proofs.KnownLemmas.{cleared_known, reopened_known, reopened_lawful}
use Rattle.wbl_migrate.proofs.known.read_versions_are_known.Goals as goal

pub returns-clause-known : goal.returns-clause-known
returns-clause-known c = reopened_known

pub returns-clause-consistent : goal.returns-clause-consistent
returns-clause-consistent c = shown_consistent

pub returns-clause-cleared : goal.returns-clause-cleared
returns-clause-cleared c = cleared_known

pub returns-clause-lawful : goal.returns-clause-lawful
returns-clause-lawful c = reopened_lawful
