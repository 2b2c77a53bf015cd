use Rattle.std.proofs.Common.{sym, ap, ◌∙◌}
use Rattle.std.specs.Option.{option_copied}
use Rattle.mv_keyspace.specs.Paging.{rows_after}
use Rattle.mv_keyspace.specs.Row.{table_of}
use Rattle.mv_keyspace.proofs.PagingLemmas.{rows-behind}
use Rattle.mv_keyspace.proofs.PuttingLemmas.{where_all}
use Rattle.mv_keyspace.proofs.page_rows.start_after.Goals as goal

pub returns-in-Some-clause-rows : goal.returns-in-Some-clause-rows
returns-in-Some-clause-rows c =
    let rows = c.args.rows.now in
    rows-behind c.in-Some.id.now rows c.end_of_record.result c.end_of_record.ensures ∙ ap (λ after. rows_after (option_copied after) (table_of rows)) (sym c.in-Some.is)

pub returns-in-None-clause-rows : goal.returns-in-None-clause-rows
returns-in-None-clause-rows c =
    let rows = c.args.rows.now in
    sym (ap (λ after. rows_after (option_copied after) (table_of rows)) c.in-None.is ∙ where_all (table_of rows))
