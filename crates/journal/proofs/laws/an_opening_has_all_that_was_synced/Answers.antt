use Rattle.journal.proofs.FileLemmas.{opens-with-all}
use Rattle.journal.proofs.laws.an_opening_has_all_that_was_synced.Goals as goal

pub returns : goal.returns
returns c = opens-with-all
