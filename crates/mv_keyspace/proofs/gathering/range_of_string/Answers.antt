use Rattle.std.proofs.Common.{subst}
use Rattle.std.specs.Ordering.{eq_by_cmp}
use Rattle.kv_types.specs.declared.record_id.RecordId.TheVariants.{Str}
use Rattle.kv_types.specs.Keyspace.{record_cmp}
use Rattle.cmd_core.specs.Record.{SplitsAt, comes_before, is_up_to}
use Rattle.mv_keyspace.specs.declared.row.Row.{Row}
use Rattle.mv_keyspace.proofs.EndingLemmas.{IsCutOut, cut-string}
use Rattle.mv_keyspace.proofs.gathering.range_of_string.Goals as goal
use Rattle.mv_keyspace.proofs.gathering.range_of_string.Goals.{After-start_of_fields-end}

cut : (c : After-start_of_fields-end) → IsCutOut (λ id. eq_by_cmp record_cmp id (Str c.args.key.now)) c.args.rows.now c.start_of_key-start.result c.start_of_fields-end.result
cut c =
    let rows = c.args.rows.now in
    cut-string c.args.key.now rows c.start_of_key-start.result c.start_of_fields-end.result
    (subst (λ key. SplitsAt (λ (row : Row). comes_before (Str key) row.id) rows c.start_of_key-start.result) c.as_slice.ensures c.start_of_key-start.ensures)
    (subst (λ key. SplitsAt (λ (row : Row). is_up_to (Str key) row.id) rows c.start_of_fields-end.result) c.as_slice-2.ensures c.start_of_fields-end.ensures)

pub returns-clause-rise : goal.returns-clause-rise
returns-clause-rise c = (cut (goal.at.returns-clause-rise c).After-start_of_fields-end).rise

pub returns-clause-rows : goal.returns-clause-rows
returns-clause-rows c = (cut (goal.at.returns-clause-rows c).After-start_of_fields-end).inside
