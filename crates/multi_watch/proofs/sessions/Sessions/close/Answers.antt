use Rattle.std.proofs.Common.{◌≡◌, None, refl, rules}
use Rattle.multi_watch.specs.Sessions.{session_at, Moves}
use Rattle.multi_watch.proofs.SessionsLemmas.{agrees_forgotten}
use Rattle.multi_watch.proofs.sessions.Sessions.close.Goals as goal

pub invariant_of-self : goal.invariant_of-self
invariant_of-self c =
    let old = c.self.inside.sessions.slots in
    let number = c.args.number.0 in
    let now = c.try_remove.new.self.slots in
    let moves : Moves old number None now = search rules in
    let was : c.watched.result.now ≡ (session_at old number).watched = search rules in
    agrees_forgotten c.self.inside.watchers.table.entries c.remove_all.new.self.table.entries old now number None c.self.invariant moves c.watched.result.now was refl c.remove_all.ensures
