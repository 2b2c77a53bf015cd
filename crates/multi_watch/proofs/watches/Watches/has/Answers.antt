use Rattle.std.proofs.Common.{ap, ◌∙◌}
use Rattle.multi_watch.specs.Session.{is_watched}
use Rattle.multi_watch.proofs.WatchesLemmas.{found_watched}
use Rattle.multi_watch.proofs.watches.Watches.has.Goals as goal

pub returns : goal.returns
returns c = c.contains_key.ensures ∙ found_watched c.args.key.now c.self.inside.marks.entries ∙ ap (is_watched c.args.key.now) c.self.view_is
