-- The bytes that a value or a bulk string keeps, however it keeps them.
use Rattle.std.specs.Prelude.{ℕ, List, take}
use Rattle.std.specs.Arc.{arc_value}
use Rattle.kv_types.specs.declared.storage.Storage.{Storage}
use Rattle.kv_types.specs.declared.storage.Storage.TheVariants.{Short, Small, Large, Long}
use Rattle.kv_types.specs.declared.payload.Source.{Source}
use Rattle.kv_types.specs.declared.payload.Source.TheVariants as source

abbrev pub items_of : Storage → List ℕ
items_of (Short bytes) = take bytes.len bytes.bytes
items_of (Small bytes) = take bytes.len (arc_value bytes.bytes)
items_of (Large bytes) = take bytes.len (arc_value bytes.bytes)
items_of (Long bytes) = arc_value bytes

abbrev pub items_at : Source → List ℕ
items_at (source.Part bytes) = bytes
items_at (source.Kept storage) = items_of storage
