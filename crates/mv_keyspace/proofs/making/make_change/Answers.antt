use Rattle.std.proofs.Common.{◌++◌, length, sym, ap, subst, ◌∙◌, arith}
use Rattle.std.specs.Option.{option_to_list}
use Rattle.std.specs.Vec.Iter.{into_iter_items}
use Rattle.kv_types.specs.declared.change.Change.TheVariants as kinds
use Rattle.model.specs.Group.{change_of, put_of, ends_record}
use Rattle.mv_keyspace.specs.Table.{place, entries_of}
use Rattle.mv_keyspace.specs.Row.{table_of, cell_of_row, rows_of_puts, ended_rows, numbers_of, PutsIn}
use Rattle.mv_keyspace.proofs.EndedLemmas.{none_spared}
use Rattle.mv_keyspace.proofs.EndingLemmas.{order-table}
use Rattle.mv_keyspace.proofs.PlayingLemmas.{ended-put_id, id-first, placed-first, left-first}
use Rattle.mv_keyspace.proofs.making.make_change.Goals as goal

pub put_row-requires-clause-room_for_ended : goal.put_row-requires-clause-room_for_ended
put_row-requires-clause-room_for_ended c = λ value.
    let row = c.unwrap-row.result in
    let table = table_of c.args.rows.now.items in
    let put = c.in-Put.field-0 in
    let first = ap table_of (c.next.ensures.items ∙ ap (λ r. option_to_list r ++ into_iter_items c.next.new.self) c.unwrap-row.ensures) in
    let own_staged = c.requires.staged.2 ∙ ap (λ change. rows_of_puts c.requires.staged.0 (put_of change ++ c.requires.staged.1)) c.in-Put.is in
    let id_is = id-first c.requires.staged.0 put c.requires.staged.1 table (table_of (into_iter_items c.args.staged.now)) (table_of (into_iter_items c.next.new.self)) row.id (cell_of_row row) own_staged first in
    let same = ended-put_id row.id put.id value put.value table id_is in
    let change = ap (λ change. length (ended_rows (change_of change) table)) c.in-Put.is in
    omega (arith, same, change, c.requires.room_for_ended)

pub returns-in-Put : goal.returns-in-Put
returns-in-Put c =
    let row = c.unwrap-row.result in
    let table = table_of c.args.rows.now.items in
    let waiting = table_of (into_iter_items c.args.staged.now) in
    let left = table_of (into_iter_items c.next.new.self) in
    let put = c.in-Put.field-0 in
    let first = ap table_of (c.next.ensures.items ∙ ap (λ r. option_to_list r ++ into_iter_items c.next.new.self) c.unwrap-row.ensures) in
    let taken = ap (λ r. length (option_to_list r)) c.unwrap-row.ensures in
    let one = ap (λ change. length (put_of change)) c.in-Put.is in
    let own_staged = c.requires.staged.2 ∙ ap (λ change. rows_of_puts c.requires.staged.0 (put_of change ++ c.requires.staged.1)) c.in-Put.is in
    let id_is = id-first c.requires.staged.0 put c.requires.staged.1 table waiting left row.id (cell_of_row row) own_staged first in
    let puts = subst (λ id. PutsIn row (ends_record (kinds.Put id put.value)) c.args.rows.now c.put_row.new.rows c.args.ended.now c.put_row.new.ended) id_is (c.put_row.ensures put.value) in
    record {
      table = λ position later staged.
          let is = staged ∙ ap (λ change. rows_of_puts position (put_of change ++ later)) c.in-Put.is in (
            puts.table ∙ placed-first position put later table waiting left row.id (cell_of_row row) is first (sym (order-table c.args.rows.now.items) ∙ c.requires.order) ∙ ap (place position table) (sym c.in-Put.is),
            left-first position put later table waiting left row.id (cell_of_row row) is first,
          );
      ended = puts.numbers ∙ ap (λ change. numbers_of c.args.ended.now.items ++ entries_of (ended_rows (change_of change) table)) (sym c.in-Put.is);
      len = let len = puts.len in omega (arith, one, len);
      left = omega (arith, one, taken, c.next.ensures.len);
      fewer = let fewer = puts.fewer in omega (arith, one, fewer);
      capacity = puts.capacity;
      capacity_for_ended = puts.capacity_for_ended;
    }

pub returns-in-Clear-clause-table : goal.returns-in-Clear-clause-table
returns-in-Clear-clause-table c = λ position later staged.
    let table = table_of c.args.rows.now.items in (
      c.end_all.ensures.table ∙ none_spared table ∙ ap (place position table) (sym c.in-Clear.is),
      staged ∙ ap (λ change. rows_of_puts position (put_of change ++ later)) c.in-Clear.is,
    )
