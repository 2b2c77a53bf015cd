use Rattle.kv_types.proofs.PlayLemmas.{play_all-append}
use Rattle.kv_types.proofs.laws.play_in_two_parts.Goals as goal

pub returns : goal.returns
returns c = play_all-append
