use Rattle.wbl_engine.proofs.LawfulLemmas.{group_lawful}
use Rattle.wbl_engine.proofs.laws.groups_keep_contents_lawful.Goals as goal

pub returns : goal.returns
returns c = group_lawful
