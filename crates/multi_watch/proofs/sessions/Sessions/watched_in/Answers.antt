use Rattle.std.proofs.Common.{rules, sym, ◌∙◌}
use Rattle.cmd_core.specs.Contents.{has_key}
use Rattle.multi_watch.specs.Sessions.{Agree}
use Rattle.multi_watch.proofs.HeldLemmas.{some_watches}
use Rattle.multi_watch.proofs.sessions.Sessions.watched_in.Goals as goal

pub returns-clause-watched : goal.returns-clause-watched
returns-clause-watched g c = λ own is.
    let agree : Agree c.self.inside.watchers.table.entries c.args.self.now = search rules in
    some_watches c.self.inside.watchers.table.entries c.args.self.now agree c.self.inside.watchers.each_watched own
    (has_key (g.L.Lookup.keyspace c.args.lookup.now) own) (sym (c.in_ok-held_in.ensures own) ∙ is)
