use Rattle.journal.proofs.RecordLemmas.{takes-all-that-was-synced}
use Rattle.journal.proofs.laws.an_opening_takes_all_that_was_synced.Goals as goal

pub returns : goal.returns
returns c = takes-all-that-was-synced
