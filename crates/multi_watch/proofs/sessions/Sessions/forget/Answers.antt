use Rattle.std.proofs.Common.{◌≡◌, [], Some, slice_set, rules}
use Rattle.multi_watch.specs.Sessions.{session_at, Moves}
use Rattle.multi_watch.proofs.SessionsLemmas.{agrees_forgotten, moves_set}
use Rattle.multi_watch.proofs.sessions.Sessions.forget.Goals as goal

pub invariant_of-self : goal.invariant_of-self
invariant_of-self c =
    let old = c.self.inside.sessions.slots in
    let number = c.args.number.0 in
    let now = slice_set old number (Some c.forget-forgotten.new.self) in
    let moves : Moves old number (Some c.forget-forgotten.new.self) now = moves_set old number c.index_mut.result.now c.forget-forgotten.new.self (search rules) in
    let was : c.forget-forgotten.result ≡ (session_at old number).watched = search rules in
    let none : c.forget-forgotten.new.self.watched ≡ [] = search rules in
    agrees_forgotten c.self.inside.watchers.table.entries c.remove_all.new.self.table.entries old now number (Some c.forget-forgotten.new.self) c.self.invariant moves c.forget-forgotten.result was none c.remove_all.ensures
