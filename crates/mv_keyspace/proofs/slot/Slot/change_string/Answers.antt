use Rattle.std.proofs.Common.{◌++◌, length, sym, ap, ◌∙◌, arith}
use Rattle.mv_keyspace.specs.Row.{numbers_of, table_of}
use Rattle.mv_keyspace.specs.Slot.{rows_of}
use Rattle.mv_keyspace.specs.Table.{Table, entries_of}
use Rattle.mv_keyspace.proofs.ListLemmas.{entry_of, length_map}
use Rattle.mv_keyspace.proofs.StringLemmas.{drops-string, ended-string, placed-string}
use Rattle.mv_keyspace.proofs.slot.Slot.change_string.Goals as goal

pub end_string-requires-clause-room_for_ended : goal.end_string-requires-clause-room_for_ended
end_string-requires-clause-room_for_ended c =
    let room = c.requires.room_for_ended in
    let change = c.args.change.now in
    let drops = drops-string room.0 c.in-Str.field-0 change c.in-Drop.id c.in-Drop.is c.in-Str.is room.1 in
    let same = ap (λ (t : Table). length t) (ended-string room.0 c.args.self.now c.requires.plain change drops) in
    (room.0, omega (arith, same, length_map entry_of (rows_of room.0 c.args.self.now), room.2))

pub returns-in-Str-clause-table : goal.returns-in-Str-clause-table
returns-in-Str-clause-table c = λ key position later changed staged.
    let change = c.args.change.now in
    let drops = drops-string key c.in-Str.field-0 change c.in-Drop.id c.in-Drop.is c.in-Str.is changed in
    (ap (λ s. table_of (rows_of key s)) c.end_string.ensures.vacant ∙ sym (placed-string key c.args.self.now c.requires.plain change drops position), grind (arith, staged, drops))

pub returns-in-Str-clause-ended : goal.returns-in-Str-clause-ended
returns-in-Str-clause-ended c = λ key changed.
    let change = c.args.change.now in
    let drops = drops-string key c.in-Str.field-0 change c.in-Drop.id c.in-Drop.is c.in-Str.is changed in
    c.end_string.ensures.ended key ∙ ap (λ t. numbers_of c.args.ended.now.items ++ entries_of t) (sym (ended-string key c.args.self.now c.requires.plain change drops))
