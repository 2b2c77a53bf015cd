use Rattle.journal.proofs.RecordLemmas.{told}
use Rattle.journal.proofs.laws.records_are_told_by_their_words.Goals as goal

pub returns : goal.returns
returns c = told
