use Rattle.std.proofs.Common.{sym, ap, subst₂, ◌∙◌}
use Rattle.std.specs.Ordering.{eq_by_cmp}
use Rattle.std.specs.FinMap.Entries.{where_key}
use Rattle.kv_types.specs.declared.record_id.RecordId.TheVariants.{Field}
use Rattle.kv_types.specs.Keyspace.{record_cmp}
use Rattle.cmd_core.specs.Record.{SplitsAt, comes_before, is_up_to}
use Rattle.mv_keyspace.specs.declared.row.Row.{Row}
use Rattle.mv_keyspace.specs.Row.{table_of}
use Rattle.mv_keyspace.proofs.EndingLemmas.{IsCutOut, cut-field}
use Rattle.mv_keyspace.proofs.gathering.range_of_record.Goals as goal
use Rattle.mv_keyspace.proofs.gathering.range_of_record.Goals.{After-end_of_field}

cut : (c : After-end_of_field) → IsCutOut (λ id. eq_by_cmp record_cmp id (Field c.in-Field.key c.in-Field.field)) c.args.rows.now c.start_of_field.result c.end_of_field.result
cut c =
    let rows = c.args.rows.now in
    cut-field c.in-Field.key c.in-Field.field rows c.start_of_field.result c.end_of_field.result
    (subst₂ (λ key field. SplitsAt (λ (row : Row). comes_before (Field key field) row.id) rows c.start_of_field.result) c.as_slice.ensures c.as_slice-in-Field.ensures c.start_of_field.ensures)
    (subst₂ (λ key field. SplitsAt (λ (row : Row). is_up_to (Field key field) row.id) rows c.end_of_field.result) c.as_slice-in-Field-2.ensures c.as_slice-in-Field-3.ensures c.end_of_field.ensures)

pub returns-in-Field-clause-rise : goal.returns-in-Field-clause-rise
returns-in-Field-clause-rise c = (cut (goal.at.returns-in-Field-clause-rise c).After-end_of_field).rise

pub returns-in-Field-clause-rows : goal.returns-in-Field-clause-rows
returns-in-Field-clause-rows c =
    (cut (goal.at.returns-in-Field-clause-rows c).After-end_of_field).inside
    ∙ ap (λ id. where_key record_cmp (λ other. eq_by_cmp record_cmp other id) (table_of c.args.rows.now)) (sym c.in-Field.is)
