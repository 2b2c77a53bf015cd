use Rattle.std.proofs.Common.{sym, subst, subst₂}
use Rattle.kv_types.specs.declared.record_id.RecordId.TheVariants.{Str, Field}
use Rattle.cmd_core.specs.Record.{SplitsAt, comes_before, is_up_to, has_key_up_to}
use Rattle.mv_keyspace.specs.declared.row.Row.{Row}
use Rattle.mv_keyspace.specs.Row.{IsRangeOf}
use Rattle.mv_keyspace.proofs.PuttingLemmas.{range-string, range-field}
use Rattle.mv_keyspace.proofs.putting.range_of.Goals as goal

pub returns-in-Str : goal.returns-in-Str
returns-in-Str c =
    let rows = c.args.rows.now in
    let start = subst (λ key. SplitsAt (λ (row : Row). comes_before (Str key) row.id) rows c.start_of_key.result) c.as_slice.ensures c.start_of_key.ensures in
    let end = subst (λ key. SplitsAt (λ (row : Row). has_key_up_to key row.id) rows c.end_of_key.result) c.as_slice-in-Str.ensures c.end_of_key.ensures in
    subst (λ id. IsRangeOf id rows c.start_of_key.result c.end_of_key.result) (sym c.in-Str.is) (range-string c.in-Str.key rows c.start_of_key.result c.end_of_key.result start end)

pub returns-in-Field : goal.returns-in-Field
returns-in-Field c =
    let rows = c.args.rows.now in
    let start = subst₂ (λ key field. SplitsAt (λ (row : Row). comes_before (Field key field) row.id) rows c.start_of_field.result) c.as_slice-in-Field.ensures c.as_slice-in-Field-2.ensures c.start_of_field.ensures in
    let end = subst₂ (λ key field. SplitsAt (λ (row : Row). is_up_to (Field key field) row.id) rows c.end_of_field.result) c.as_slice-in-Field-3.ensures c.as_slice-in-Field-4.ensures c.end_of_field.ensures in
    subst (λ id. IsRangeOf id rows c.start_of_field.result c.end_of_field.result) (sym c.in-Field.is) (range-field c.in-Field.key c.in-Field.field rows c.start_of_field.result c.end_of_field.result start end)
