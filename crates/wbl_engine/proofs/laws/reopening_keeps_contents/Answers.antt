use Rattle.wbl_engine.proofs.ReopeningLaws.{keeps_through, reopening_lawful}
use Rattle.wbl_engine.proofs.laws.reopening_keeps_contents.Goals as goal

pub returns-clause-keeps : goal.returns-clause-keeps
returns-clause-keeps c = keeps_through

pub returns-clause-lawful : goal.returns-clause-lawful
returns-clause-lawful c = reopening_lawful
