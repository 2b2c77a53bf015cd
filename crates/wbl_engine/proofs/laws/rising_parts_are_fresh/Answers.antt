use Rattle.wbl_engine.proofs.RisingLemmas.{rising_distinct, rising_fresh, rising_up_to}
use Rattle.wbl_engine.proofs.laws.rising_parts_are_fresh.Goals as goal

pub returns-clause-fresh : goal.returns-clause-fresh
returns-clause-fresh c = rising_fresh

pub returns-clause-distinct : goal.returns-clause-distinct
returns-clause-distinct c = rising_distinct

pub returns-clause-goes_on : goal.returns-clause-goes_on
returns-clause-goes_on c = rising_up_to
