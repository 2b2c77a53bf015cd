use Rattle.journal.proofs.ReplayLemmas.{brings-its-lines}
use Rattle.journal.proofs.laws.a_record_brings_its_lines.Goals as goal

pub returns : goal.returns
returns c = brings-its-lines
