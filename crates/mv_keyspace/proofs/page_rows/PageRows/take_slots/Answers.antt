use Rattle.std.proofs.Common.{sym, ap, ◌∙◌}
use Rattle.std.specs.Option.{option_copied}
use Rattle.mv_keyspace.specs.Paging.{filled, rows_after}
use Rattle.mv_keyspace.specs.Row.{table_of}
use Rattle.mv_keyspace.specs.Slot.{rows_of}
use Rattle.mv_keyspace.specs.Slots.{rows_in}
use Rattle.mv_keyspace.specs.Versions.{begun_at}
use Rattle.mv_keyspace.proofs.PagingLemmas.{filled-step}
use Rattle.mv_keyspace.proofs.PageSizes.{filled-full}
use Rattle.mv_keyspace.proofs.page_rows.PageRows.take_slots.Goals as goal

pub returns-then-is_full-clause-rows : goal.returns-then-is_full-clause-rows
returns-then-is_full-clause-rows c =
    let now = c.loop-entry.self in
    sym (filled-full now.bytes (table_of now.rows.items) (begun_at c.args.position (rows_after (option_copied c.args.after) (table_of (rows_in c.loop-entry.entry-iterator)))) (sym c.is_full.ensures ∙ c.if-is_full.true))
    ∙ c.loop-entry.invariant.rows
    ∙ ap (λ es. filled c.args.self.now.bytes (table_of c.args.self.now.rows.items) (begun_at c.args.position (rows_after (option_copied c.args.after) (table_of (rows_in es))))) c.into_iter-entry-iterator.ensures.into_iter_gives

pub loop-entry-preserved : goal.loop-entry-preserved
loop-entry-preserved c =
    let now = c.loop-entry.self in
    let taken = c.take_slot.new.self in
    let after = option_copied c.args.after in
    let rows = rows_of c.in-Some.entry.0.now c.in-Some.entry.1.now in
    let more = rows_in c.next.new.self in
    record {
      rows =
          filled-step now.bytes taken.bytes c.args.position after (table_of now.rows.items) (table_of taken.rows.items) rows more c.in_ok-take_slot.ensures.bytes c.in_ok-take_slot.ensures.rows
          ∙ ap (λ es. filled now.bytes (table_of now.rows.items) (begun_at c.args.position (rows_after after (table_of (rows_in es))))) (sym c.in-Some.ensures.steps)
          ∙ c.loop-entry.invariant.rows;
      bytes = c.in_ok-take_slot.ensures.bytes ∙ c.loop-entry.invariant.bytes;
    }
