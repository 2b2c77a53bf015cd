use Rattle.std.proofs.Common.{subst, subst₂, arith}
use Rattle.std.specs.Ordering.{eq_by_cmp}
use Rattle.kv_types.specs.declared.record_id.RecordId.TheVariants.{Field}
use Rattle.kv_types.specs.Keyspace.{record_cmp}
use Rattle.cmd_core.specs.Record.{SplitsAt, comes_before, is_up_to}
use Rattle.mv_keyspace.specs.declared.row.Row.{Row}
use Rattle.mv_keyspace.proofs.EndingLemmas.{IsCutOut, cut-field, cut-length, takes_out-cut}
use Rattle.mv_keyspace.proofs.ending.end_field.Goals as goal
use Rattle.mv_keyspace.proofs.ending.end_field.Goals.{After-end_of_field-end}

cut : (c : After-end_of_field-end) → IsCutOut (λ id. eq_by_cmp record_cmp id (Field c.args.key.now c.args.field.now)) c.args.rows.now.items c.start_of_field-start.result c.end_of_field-end.result
cut c =
    cut-field c.args.key.now c.args.field.now c.args.rows.now.items c.start_of_field-start.result c.end_of_field-end.result
    (subst (λ rows. SplitsAt (λ (row : Row). comes_before (Field c.args.key.now c.args.field.now) row.id) rows c.start_of_field-start.result) c.deref.ensures.value
    (subst₂ (λ k f. SplitsAt (λ (row : Row). comes_before (Field k f) row.id) c.deref.result.now c.start_of_field-start.result) c.as_slice.ensures c.as_slice-2.ensures c.start_of_field-start.ensures))
    (subst (λ rows. SplitsAt (λ (row : Row). is_up_to (Field c.args.key.now c.args.field.now) row.id) rows c.end_of_field-end.result) c.deref-2.ensures.value
    (subst₂ (λ k f. SplitsAt (λ (row : Row). is_up_to (Field k f) row.id) c.deref-2.result.now c.end_of_field-end.result) c.as_slice-3.ensures c.as_slice-4.ensures c.end_of_field-end.ensures))

pub end_range-requires-clause-rise : goal.end_range-requires-clause-rise
end_range-requires-clause-rise c = (cut (goal.at.end_range-requires-clause-rise c).After-end_of_field-end).rise

pub end_range-requires-clause-room : goal.end_range-requires-clause-room
end_range-requires-clause-room c =
    omega (arith, cut-length _ c.args.rows.now.items c.start_of_field-start.result c.end_of_field-end.result (cut (goal.at.end_range-requires-clause-room c).After-end_of_field-end), c.requires.room)

pub returns : goal.returns
returns c =
    takes_out-cut _ c.args.rows.now c.end_range.new.rows c.args.ended.now c.end_range.new.ended c.start_of_field-start.result c.end_of_field-end.result (cut (goal.at.returns c).After-end_of_field-end)
    c.end_range.ensures.left c.end_range.ensures.ended c.end_range.ensures.capacity c.end_range.ensures.capacity_for_ended
