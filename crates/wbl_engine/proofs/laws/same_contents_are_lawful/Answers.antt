use Rattle.wbl_engine.proofs.LawfulLemmas.{same_lawful}
use Rattle.wbl_engine.proofs.laws.same_contents_are_lawful.Goals as goal

pub returns : goal.returns
returns c = same_lawful
