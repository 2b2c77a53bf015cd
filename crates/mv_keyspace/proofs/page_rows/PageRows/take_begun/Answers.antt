use Rattle.std.proofs.Common.{drop, sym, ◌∙◌}
use Rattle.mv_keyspace.specs.Row.{table_of}
use Rattle.mv_keyspace.specs.Versions.{begun_at}
use Rattle.mv_keyspace.proofs.PageSizes.{filled-full}
use Rattle.mv_keyspace.proofs.page_rows.PageRows.take_begun.Goals as goal

pub returns-then-is_full-clause-rows : goal.returns-then-is_full-clause-rows
returns-then-is_full-clause-rows c =
    let now = c.loop-row.self in
    sym (filled-full now.bytes (table_of now.rows.items) (begun_at c.args.position (table_of (drop c.loop-row.row-index c.args.rows.now))) (sym c.is_full.ensures ∙ c.if-is_full.true)) ∙ c.loop-row.invariant.rows
