use Rattle.placing.proofs.ReadLemmas.{read_is_of, read_rises}
use Rattle.placing.proofs.laws.images_are_read_by_entries.Goals as goal

pub returns : goal.returns
returns c = record { lists = read_is_of; rising = read_rises }
