use Rattle.std.proofs.Common.{[], ◌∷◌, sym, ap, ap₂, ◌∙◌}
use Rattle.mv_keyspace.specs.Paging.{room_left, room_less}
use Rattle.mv_keyspace.specs.Row.{cell_of_row, table_of}
use Rattle.mv_keyspace.proofs.PageSizes.{room-less}
use Rattle.mv_keyspace.proofs.SlotLemmas.{table_of-append}
use Rattle.mv_keyspace.proofs.page_rows.PageRows.push.Goals as goal

pub invariant_of-self-2 : goal.invariant_of-self-2
invariant_of-self-2 c =
    let now = c.args.self.now in
    let row = c.args.row in
    record {
      counted =
          c.less-self.ensures
          ∙ ap₂ room_less now.counted c.put_size-size.ensures.value
          ∙ room-less now.bytes (table_of now.rows.items) (row.id, cell_of_row row)
          ∙ ap (room_left now.bytes) (sym (table_of-append now.rows.items (row ∷ [])))
          ∙ ap (λ rows. room_left now.bytes (table_of rows)) (sym c.in_ok-push.ensures.items);
    }
