use Rattle.wbl_engine.proofs.GapLemmas.{lawful_but_one}
use Rattle.wbl_engine.proofs.clearing.without_oldest_gap.Goals as goal

pub returns-clause-lawful : goal.returns-clause-lawful
returns-clause-lawful c = lawful_but_one c.args.current.now c.requires.lawful c.requires.room
