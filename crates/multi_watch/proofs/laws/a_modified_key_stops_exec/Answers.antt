use Rattle.multi_watch.proofs.RunLemmas.{modified_stops}
use Rattle.multi_watch.proofs.laws.a_modified_key_stops_exec.Goals as goal

pub returns : goal.returns
returns c = modified_stops
