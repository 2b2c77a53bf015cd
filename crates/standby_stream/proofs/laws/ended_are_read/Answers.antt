use Rattle.standby_stream.proofs.ReadLemmas.{ids_are_ended}
use Rattle.standby_stream.proofs.laws.ended_are_read.Goals as goal

pub returns : goal.returns
returns c = ids_are_ended
