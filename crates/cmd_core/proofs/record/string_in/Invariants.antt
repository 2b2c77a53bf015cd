use Rattle.std.proofs.Common.{◌≡◌, map, drop}
use Rattle.kv_types.specs.declared.record_id.RecordId.TheVariants.{Str}
use Rattle.kv_types.specs.Keyspace.{value_at}
use Rattle.cmd_core.proofs.record.string_in.Given as goal

abbrev pub invariant-loop-record : goal.invariant-loop-record
invariant-loop-record g l = value_at (map g.R.KeptRecord.kept l.records) (Str l.key) ≡ value_at (map g.R.KeptRecord.kept (drop l.record-index l.records)) (Str l.key)
