use Rattle.multi_watch.proofs.ModifiedLemmas.{stays-play_all}
use Rattle.multi_watch.proofs.laws.a_key_that_is_not_modified_stays.Goals as goal

pub returns : goal.returns
returns c = stays-play_all
