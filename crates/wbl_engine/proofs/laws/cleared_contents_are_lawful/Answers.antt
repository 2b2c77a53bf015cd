use Rattle.wbl_engine.proofs.WithoutLemmas.{consistent_cleared, lawful_cleared}
use Rattle.wbl_engine.proofs.laws.cleared_contents_are_lawful.Goals as goal

pub returns-clause-lawful : goal.returns-clause-lawful
returns-clause-lawful c = lawful_cleared

pub returns-clause-consistent : goal.returns-clause-consistent
returns-clause-consistent c = consistent_cleared
