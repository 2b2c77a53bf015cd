use Rattle.std.proofs.Common.{ap, ◌∙◌}
use Rattle.multi_watch.specs.Session.{is_watched}
use Rattle.multi_watch.specs.Watches.{is_key_in}
use Rattle.multi_watch.proofs.WatchesLemmas.{keys_watched}
use Rattle.multi_watch.proofs.watches.Watches.keys.Goals as goal

pub returns-clause-watched : goal.returns-clause-watched
returns-clause-watched c = λ own. ap (is_key_in own) c.keys.ensures.rest ∙ keys_watched own c.self.inside.marks.entries ∙ ap (is_watched own) c.self.view_is
