use Rattle.primary.proofs.SettledLemmas.{nothing-open}
use Rattle.primary.proofs.front.Front.is_room_coming.Goals as goal

pub returns : goal.returns
returns g c = nothing-open c.args.self.now.sequencer c.has_open.result c.has_ended.result c.has_open.ensures c.has_ended.ensures
