use Rattle.std.proofs.Common.{rules}
use Rattle.multi_watch.proofs.SessionsLemmas.{agrees_written}
use Rattle.multi_watch.proofs.sessions.Sessions.other.Goals as goal

pub invariant_of-self : goal.invariant_of-self
invariant_of-self c =
    agrees_written c.self.inside.watchers.table.entries c.self.inside.sessions.slots c.args.number.0 c.index_mut-session.result.now c.wait.new.self c.self.invariant
    (search rules) (search rules)
