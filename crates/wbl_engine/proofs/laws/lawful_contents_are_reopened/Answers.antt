use Rattle.wbl_engine.proofs.ReopeningLaws.{lawful_refusal}
use Rattle.wbl_engine.proofs.laws.lawful_contents_are_reopened.Goals as goal

pub returns : goal.returns
returns c = lawful_refusal
