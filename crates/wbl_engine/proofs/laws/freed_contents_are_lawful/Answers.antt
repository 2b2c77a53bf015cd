use Rattle.wbl_engine.proofs.WithoutLemmas.{IsMapOf-contents_without, consistent_without, lawful_without}
use Rattle.wbl_engine.proofs.laws.freed_contents_are_lawful.Goals as goal

pub returns-clause-lawful : goal.returns-clause-lawful
returns-clause-lawful c = lawful_without

pub returns-clause-map : goal.returns-clause-map
returns-clause-map c = IsMapOf-contents_without

pub returns-clause-consistent : goal.returns-clause-consistent
returns-clause-consistent c = consistent_without
