use Rattle.std.proofs.Common.{sym, ap, ◌∙◌}
use Rattle.mv_keyspace.specs.Row.{table_of}
use Rattle.mv_keyspace.specs.Slot.{rows_of}
use Rattle.mv_keyspace.specs.Slots.{rows_in}
use Rattle.mv_keyspace.specs.Versions.{table_in, with_rows}
use Rattle.mv_keyspace.proofs.GatheringLemmas.{with_rows-append}
use Rattle.mv_keyspace.proofs.SlotLemmas.{table_of-append}
use Rattle.mv_keyspace.proofs.gathering.put_all_slots.Goals as goal

pub loop-entry-preserved : goal.loop-entry-preserved
loop-entry-preserved c =
    let rows = rows_of c.in-Some.entry.0.now c.in-Some.entry.1.now in
    let more = rows_in c.next.new.self in
    let before = table_in c.loop-entry.gathered.entries in
    ap (with_rows (table_of more)) c.in_ok-put_slot.ensures
    ∙ sym (with_rows-append (table_of rows) (table_of more) before)
    ∙ ap (λ t. with_rows t before) (sym (table_of-append rows more))
    ∙ ap (λ es. with_rows (table_of (rows_in es)) before) (sym c.in-Some.ensures.steps)
    ∙ c.loop-entry.invariant
