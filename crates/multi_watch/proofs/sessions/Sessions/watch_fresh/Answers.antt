use Rattle.std.proofs.Common.{◌≡◌, ◌++◌, Some, slice_set, rules}
use Rattle.multi_watch.specs.Watchers.{AddsAll, RemovesAll}
use Rattle.multi_watch.specs.Sessions.{session_at, Moves}
use Rattle.multi_watch.proofs.SessionsLemmas.{agrees_without, agrees_with, agrees_written, moves_set, removed_again}
use Rattle.multi_watch.proofs.sessions.Sessions.watch_fresh.Goals as goal

pub invariant_of-self : goal.invariant_of-self
invariant_of-self c =
    let table = c.self.inside.watchers.table.entries in
    let left = c.add_all.new.self.table.entries in
    let number = c.args.number.0 in
    let removes : RemovesAll table c.args.fresh.now number left = search rules in
    agrees_without table left c.self.inside.sessions.slots c.args.fresh.now number c.self.invariant (search rules) removes

pub invariant_of-self-in-Err : goal.invariant_of-self-in-Err
invariant_of-self-in-Err c =
    let table = c.self.inside.watchers.table.entries in
    let with_them = c.add_all.new.self.table.entries in
    let left = c.remove_all.new.self.table.entries in
    let old = c.self.inside.sessions.slots in
    let number = c.args.number.0 in
    let fresh = c.args.fresh.now in
    let adds : AddsAll table fresh number with_them = search rules in
    let removes : RemovesAll with_them fresh number left = search rules in
    agrees_written left old number c.index_mut.result.now c.watch.new.self
    (agrees_without table left old fresh number c.self.invariant (search rules) (removed_again table with_them left fresh number adds removes)) (search rules) (search rules)

pub invariant_of-self-in_default : goal.invariant_of-self-in_default
invariant_of-self-in_default c =
    let table = c.self.inside.watchers.table.entries in
    let with_them = c.add_all.new.self.table.entries in
    let old = c.self.inside.sessions.slots in
    let number = c.args.number.0 in
    let fresh = c.args.fresh.now in
    let now = slice_set old number (Some c.watch.new.self) in
    let adds : AddsAll table fresh number with_them = search rules in
    let moves : Moves old number (Some c.watch.new.self) now = moves_set old number c.index_mut.result.now c.watch.new.self (search rules) in
    let is_now : c.watch.new.self.watched ≡ (session_at old number).watched ++ fresh = search rules in
    agrees_with table with_them old now number (Some c.watch.new.self) c.self.invariant moves fresh is_now adds
