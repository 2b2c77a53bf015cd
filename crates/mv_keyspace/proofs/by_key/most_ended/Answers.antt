use Rattle.std.proofs.Common.{Some, length, sym, ap, ◌∙◌, arith}
use Rattle.kv_types.specs.declared.change.Change.TheVariants as kinds
use Rattle.kv_types.specs.declared.record_id.RecordId.TheVariants.{Str, Field}
use Rattle.kv_types.specs.Keyspace.{key_of}
use Rattle.model.specs.Group.{change_of}
use Rattle.mv_keyspace.specs.Keys.{changed_key}
use Rattle.mv_keyspace.specs.Row.{ended_rows, table_of}
use Rattle.mv_keyspace.specs.Slots.{rows_in}
use Rattle.mv_keyspace.proofs.EndingLemmas.{order-lawful, order-table}
use Rattle.mv_keyspace.proofs.RoomLemmas.{one-record, two-records}
use Rattle.mv_keyspace.proofs.WritingLemmas.{ended-few_at}
use Rattle.mv_keyspace.proofs.by_key.most_ended.Goals as goal

pub returns-in-Str : goal.returns-in-Str
returns-in-Str c =
    let es = c.args.slots.now.entries in
    let changed = ap (λ change. changed_key (change_of change)) c.in-Put.is ∙ ap (λ id. Some (key_of id)) c.in-Str.is in
    let few = ended-few_at c.in-Str.key es c.args.change.now c.requires.slots changed in
    omega (arith, few, c.count_at.ensures)

pub returns-in-Field : goal.returns-in-Field
returns-in-Field c =
    let rows = rows_in c.args.slots.now.entries in
    let table = table_of rows in
    let put = c.in-Put.put in
    let change = ap (λ change. length (ended_rows (change_of change) table)) c.in-Put.is in
    let id = ap (λ id. length (ended_rows (kinds.Put id put.value) table)) c.in-Field.is in
    let two = two-records (Field c.in-Field.field-0 c.in-Field.field-1) (Str c.in-Field.field-0) table (sym (order-table rows) ∙ order-lawful rows c.requires.lawful) in
    omega (arith, change, id, two)

pub returns-in-Drop : goal.returns-in-Drop
returns-in-Drop c =
    let rows = rows_in c.args.slots.now.entries in
    let table = table_of rows in
    let change = ap (λ change. length (ended_rows (change_of change) table)) c.in-Drop.is in
    let one = one-record c.in-Drop.field-0 table (sym (order-table rows) ∙ order-lawful rows c.requires.lawful) in
    omega (arith, change, one)

pub returns-in-DropKey : goal.returns-in-DropKey
returns-in-DropKey c =
    let es = c.args.slots.now.entries in
    let changed = ap (λ change. changed_key (change_of change)) c.in-DropKey.is in
    let few = ended-few_at c.in-DropKey.key es c.args.change.now c.requires.slots changed in
    omega (arith, few, c.count_at-in-DropKey.ensures)
