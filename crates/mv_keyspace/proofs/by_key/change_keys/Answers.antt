use Rattle.std.proofs.Common.{sym, ap, ◌∙◌, arith}
use Rattle.mv_keyspace.specs.Row.{table_of}
use Rattle.mv_keyspace.specs.Slots.{ends, rows_in}
use Rattle.mv_keyspace.specs.Table.{puts_of}
use Rattle.mv_keyspace.proofs.EndingLemmas.{order-lawful, order-table}
use Rattle.mv_keyspace.proofs.PlayingLemmas.{length-made}
use Rattle.mv_keyspace.proofs.RoomLemmas.{ends-few}
use Rattle.mv_keyspace.proofs.by_key.change_keys.Goals as goal

pub play-count-requires-clause-room_for_ended : goal.play-count-requires-clause-room_for_ended
play-count-requires-clause-room_for_ended c = λ position.
    let rows = rows_in c.args.slots.now.entries in
    let changes = c.args.changes.now in
    let few = ends-few position (table_of rows) changes (sym (order-table rows) ∙ order-lawful rows c.requires.lawful) in
    let made = length-made c.args.position (puts_of changes) c.in_ok-staged.staged.items c.in_ok-staged.ensures.ok in
    let same = ap (λ rows. ends position (table_of rows) changes) c.expect_rows.ensures.rows in
    omega (arith, few, made, same, c.in_ok-room_for_ended.ensures.ok, c.in_ok-reserve.ensures.ok, c.reserve.ensures.len, c.len.ensures, c.in_ok-staged.staged.ok.0)
