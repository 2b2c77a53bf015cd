-- What the changes that the code found in bytes say.
use Rattle.kv_types.specs.declared.record_id.RecordId.TheVariants.{Str, Field}
use Rattle.kv_types.specs.declared.change.Change.{Change}
use Rattle.kv_types.specs.declared.change.Change.TheVariants.{Put, Drop, DropKey, Clear}
use Rattle.stream_codec.specs.declared.change.RawChange.{RawChange}
use Rattle.stream_codec.specs.declared.change.RawChange.TheVariants as raw

abbrev pub shown : RawChange → Change
shown (raw.PutString key value) = Put (Str key.now) value.now
shown (raw.PutField key field value) = Put (Field key.now field.now) value.now
shown (raw.DropString key) = Drop (Str key.now)
shown (raw.DropField key field) = Drop (Field key.now field.now)
shown (raw.DropKey key) = DropKey key.now
shown raw.Clear = Clear
