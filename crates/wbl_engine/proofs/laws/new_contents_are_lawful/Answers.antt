use Rattle.wbl_engine.proofs.LawfulLemmas.{new_lawful}
use Rattle.wbl_engine.proofs.laws.new_contents_are_lawful.Goals as goal

pub returns : goal.returns
returns c = new_lawful
