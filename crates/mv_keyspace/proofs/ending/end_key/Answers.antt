use Rattle.std.proofs.Common.{nat_eq, subst₂, arith}
use Rattle.std.specs.Cmp.Lexicographic.{pointwise}
use Rattle.kv_types.specs.declared.record_id.RecordId.TheVariants.{Str}
use Rattle.kv_types.specs.Keyspace.{key_of}
use Rattle.cmd_core.specs.Record.{SplitsAt, comes_before, has_key_up_to}
use Rattle.mv_keyspace.specs.declared.row.Row.{Row}
use Rattle.mv_keyspace.proofs.EndingLemmas.{IsCutOut, cut-key, cut-length, takes_out-cut}
use Rattle.mv_keyspace.proofs.ending.end_key.Goals as goal
use Rattle.mv_keyspace.proofs.ending.end_key.Goals.{After-end_of_key-end}

cut : (c : After-end_of_key-end) → IsCutOut (λ id. pointwise nat_eq (key_of id) c.args.key.now) c.args.rows.now.items c.start_of_key-start.result c.end_of_key-end.result
cut c =
    cut-key c.args.key.now c.args.rows.now.items c.start_of_key-start.result c.end_of_key-end.result
    (subst₂ (λ k rows. SplitsAt (λ (row : Row). comes_before (Str k) row.id) rows c.start_of_key-start.result) c.as_slice.ensures c.deref.ensures.value c.start_of_key-start.ensures)
    (subst₂ (λ k rows. SplitsAt (λ (row : Row). has_key_up_to k row.id) rows c.end_of_key-end.result) c.as_slice-2.ensures c.deref-2.ensures.value c.end_of_key-end.ensures)

pub end_range-requires-clause-rise : goal.end_range-requires-clause-rise
end_range-requires-clause-rise c = (cut (goal.at.end_range-requires-clause-rise c).After-end_of_key-end).rise

pub end_range-requires-clause-room : goal.end_range-requires-clause-room
end_range-requires-clause-room c =
    omega (arith, cut-length _ c.args.rows.now.items c.start_of_key-start.result c.end_of_key-end.result (cut (goal.at.end_range-requires-clause-room c).After-end_of_key-end), c.requires.room)

pub returns : goal.returns
returns c =
    takes_out-cut _ c.args.rows.now c.end_range.new.rows c.args.ended.now c.end_range.new.ended c.start_of_key-start.result c.end_of_key-end.result (cut (goal.at.returns c).After-end_of_key-end)
    c.end_range.ensures.left c.end_range.ensures.ended c.end_range.ensures.capacity c.end_range.ensures.capacity_for_ended
