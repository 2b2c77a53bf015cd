use Rattle.std.proofs.Common.{sym, ap, ◌∙◌}
use Rattle.kv_types.specs.declared.record_id.RecordId.TheVariants.{Str}
use Rattle.kv_types.specs.Keyspace.{value_at}
use Rattle.mv_keyspace.specs.Row.{records_of}
use Rattle.mv_keyspace.specs.Slot.{rows_of}
use Rattle.mv_keyspace.proofs.StringLemmas.{string-value}
use Rattle.mv_keyspace.proofs.reading.string_in.Goals as goal

pub returns-in-Str : goal.returns-in-Str
returns-in-Str c = let key = c.args.key.now in sym (ap (λ s. value_at (records_of (rows_of key s)) (Str key)) c.in-Str.is ∙ string-value key c.in-Str.version)
