use Rattle.std.proofs.Common.{nat_eq, subst}
use Rattle.std.specs.Cmp.Lexicographic.{pointwise}
use Rattle.kv_types.specs.declared.record_id.RecordId.TheVariants.{Str}
use Rattle.kv_types.specs.Keyspace.{key_of}
use Rattle.cmd_core.specs.Record.{SplitsAt, comes_before, has_key_up_to}
use Rattle.mv_keyspace.specs.declared.row.Row.{Row}
use Rattle.mv_keyspace.proofs.EndingLemmas.{IsCutOut, cut-key}
use Rattle.mv_keyspace.proofs.gathering.range_of_key.Goals as goal
use Rattle.mv_keyspace.proofs.gathering.range_of_key.Goals.{After-end_of_key-end}

cut : (c : After-end_of_key-end) → IsCutOut (λ id. pointwise nat_eq (key_of id) c.args.key.now) c.args.rows.now c.start_of_key-start.result c.end_of_key-end.result
cut c =
    let rows = c.args.rows.now in
    cut-key c.args.key.now rows c.start_of_key-start.result c.end_of_key-end.result
    (subst (λ key. SplitsAt (λ (row : Row). comes_before (Str key) row.id) rows c.start_of_key-start.result) c.as_slice.ensures c.start_of_key-start.ensures)
    (subst (λ key. SplitsAt (λ (row : Row). has_key_up_to key row.id) rows c.end_of_key-end.result) c.as_slice-2.ensures c.end_of_key-end.ensures)

pub returns-clause-rise : goal.returns-clause-rise
returns-clause-rise c = (cut (goal.at.returns-clause-rise c).After-end_of_key-end).rise

pub returns-clause-rows : goal.returns-clause-rows
returns-clause-rows c = (cut (goal.at.returns-clause-rows c).After-end_of_key-end).inside
