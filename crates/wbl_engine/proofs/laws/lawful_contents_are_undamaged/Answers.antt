use Rattle.wbl_engine.proofs.LawfulLemmas.{lawful_undamaged}
use Rattle.wbl_engine.proofs.laws.lawful_contents_are_undamaged.Goals as goal

pub returns : goal.returns
returns c = lawful_undamaged
