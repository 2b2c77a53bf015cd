use Rattle.std.proofs.Common.{[], not, length, sym, ap, subst, ◌∙◌, arith}
use Rattle.std.specs.FinMap.Entries.{where_key}
use Rattle.kv_types.specs.Keyspace.{record_cmp}
use Rattle.mv_keyspace.specs.Table.{Table}
use Rattle.mv_keyspace.specs.Row.{IsRangeOf, is_string_of, stands_for, table_of}
use Rattle.mv_keyspace.proofs.EndingLemmas.{AreInOrder, order-left, order-table}
use Rattle.mv_keyspace.proofs.ListLemmas.{length-ended}
use Rattle.mv_keyspace.proofs.PuttingLemmas.{length-ended_put, length-range_of, puts_in}
use Rattle.mv_keyspace.proofs.putting.put_row.Goals as goal

pub range_of-start-requires : goal.range_of-start-requires
range_of-start-requires c = record {
  order =
      subst (λ rows. AreInOrder rows) (sym c.deref.ensures.value)
      (order-left (λ id. not (is_string_of c.args.row.id id)) c.args.rows.now.items c.end_string_of.new.rows.items c.end_string_of.ensures.table c.requires.order);
}

pub end_string_of-requires-clause-room : goal.end_string_of-requires-clause-room
end_string_of-requires-clause-room c =
    let rows = c.args.rows.now.items in
    let parts = length-ended_put c.args.row.id [] (table_of rows) (sym (order-table rows) ∙ c.requires.order) in
    let room = c.requires.room_for_ended [] in
    omega (arith, parts, room)

pub put_over-requires-clause-room_for_ended : goal.put_over-requires-clause-room_for_ended
put_over-requires-clause-room_for_ended c =
    let id = c.args.row.id in
    let rows = c.args.rows.now.items in
    let mid = c.end_string_of.new.rows.items in
    let start = c.range_of-start.result.0 in
    let end = c.range_of-start.result.1 in
    let range = subst (λ rows. IsRangeOf id rows start end) c.deref.ensures.value c.range_of-start.ensures in
    let parts = length-ended_put id [] (table_of rows) (sym (order-table rows) ∙ c.requires.order) in
    let room = c.requires.room_for_ended [] in
    let taken = c.end_string_of.ensures in
    let named = length-ended c.args.ended.now.items c.end_string_of.new.ended.items (where_key record_cmp (is_string_of id) (table_of rows)) taken.numbers in
    let few = length-range_of id mid start end range in
    let left = ap (λ (t : Table). length (where_key record_cmp (stands_for id) t)) taken.table in
    let capacity = taken.capacity_for_ended in
    omega (arith, parts, room, named, few, left, capacity, c.args.ended.now.ok.0, c.end_string_of.new.ended.ok.0)

pub returns : goal.returns
returns c = λ value.
    let start = c.range_of-start.result.0 in
    let end = c.range_of-start.result.1 in
    let range = subst (λ rows. IsRangeOf c.args.row.id rows start end) c.deref.ensures.value c.range_of-start.ensures in
    puts_in c.args.row value c.args.rows.now c.end_string_of.new.rows c.put_over.new.rows c.args.ended.now c.end_string_of.new.ended c.put_over.new.ended start end c.requires.order c.end_string_of.ensures range
    c.put_over.ensures.rows c.put_over.ensures.ended c.put_over.ensures.capacity c.put_over.ensures.capacity_for_ended
