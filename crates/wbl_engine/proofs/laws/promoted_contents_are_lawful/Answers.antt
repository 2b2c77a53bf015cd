use Rattle.wbl_engine.proofs.PromotingLemmas.{consistent_promoted, lawful_promoted}
use Rattle.wbl_engine.proofs.laws.promoted_contents_are_lawful.Goals as goal

pub returns-clause-lawful : goal.returns-clause-lawful
returns-clause-lawful c = lawful_promoted

pub returns-clause-consistent : goal.returns-clause-consistent
returns-clause-consistent c = consistent_promoted
