use Rattle.std.proofs.Common.{sym, ap, ◌∙◌}
use Rattle.std.proofs.lemmas.List.Elements.{filter-append}
use Rattle.std.specs.Prelude.{nat_le}
use Rattle.mv_keyspace.specs.Row.{table_of}
use Rattle.mv_keyspace.specs.Slot.{rows_of}
use Rattle.mv_keyspace.specs.Slots.{rows_in}
use Rattle.mv_keyspace.specs.Versions.{begun_at, table_in, with_rows}
use Rattle.mv_keyspace.proofs.GatheringLemmas.{with_rows-append}
use Rattle.mv_keyspace.proofs.SlotLemmas.{table_of-append}
use Rattle.mv_keyspace.proofs.slot_rows.SlotRowsLive.put_begun.Goals as goal

pub loop-entry-preserved : goal.loop-entry-preserved
loop-entry-preserved c =
    let at = c.args.position in
    let rows = rows_of c.in-Some.entry.0.now c.in-Some.entry.1.now in
    let more = rows_in c.next.new.self in
    let before = table_in c.loop-entry.rows.entries in
    ap (with_rows (begun_at at (table_of more))) c.in_ok-put_begun_of.ensures
    ∙ sym (with_rows-append (begun_at at (table_of rows)) (begun_at at (table_of more)) before)
    ∙ ap (λ t. with_rows t before) (sym (filter-append (λ row. nat_le row.1.position at) (table_of rows) (table_of more)))
    ∙ ap (λ t. with_rows (begun_at at t) before) (sym (table_of-append rows more))
    ∙ ap (λ es. with_rows (begun_at at (table_of (rows_in es))) before) (sym c.in-Some.ensures.steps)
    ∙ c.loop-entry.invariant
