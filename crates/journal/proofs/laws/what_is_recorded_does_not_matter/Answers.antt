use Rattle.journal.proofs.ReplayLemmas.{does-not-matter}
use Rattle.journal.proofs.laws.what_is_recorded_does_not_matter.Goals as goal

pub returns : goal.returns
returns c = does-not-matter
