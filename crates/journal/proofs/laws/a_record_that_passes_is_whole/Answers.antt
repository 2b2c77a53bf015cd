use Rattle.journal.proofs.RecordLemmas.{all-or-nothing}
use Rattle.journal.proofs.laws.a_record_that_passes_is_whole.Goals as goal

pub returns : goal.returns
returns c = all-or-nothing
