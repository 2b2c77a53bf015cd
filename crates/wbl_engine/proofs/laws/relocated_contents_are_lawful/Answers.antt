use Rattle.wbl_engine.proofs.RelocatingLemmas.{relocated_consistent, relocated_lawful, relocated_map}
use Rattle.wbl_engine.proofs.laws.relocated_contents_are_lawful.Goals as goal

pub returns-clause-lawful : goal.returns-clause-lawful
returns-clause-lawful c = relocated_lawful

pub returns-clause-map : goal.returns-clause-map
returns-clause-map c contents parts consistent asked = relocated_map consistent asked

pub returns-clause-consistent : goal.returns-clause-consistent
returns-clause-consistent c contents parts consistent asked = relocated_consistent consistent asked
