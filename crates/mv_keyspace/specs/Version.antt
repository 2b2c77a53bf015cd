-- The version of a string, which is kept without its key, and what is shown of a version.
use Rattle.std.specs.Prelude.{ℕ, List}
use Rattle.kv_types.specs.declared.record_id.RecordId.TheVariants.{Str}
use Rattle.mv_keyspace.specs.declared.row.Row.{Row}
use Rattle.mv_keyspace.specs.declared.version.Version.{Version}
use Rattle.mv_keyspace.specs.declared.shown.Shown.{Shown}
use Rattle.mv_keyspace.specs.Table.{Cell}

-- the row of the string of a key
abbrev pub string_row : List ℕ → Version → Row
string_row key version = record { id = Str key; value = version.value; entry = version.entry; position = version.position }

abbrev pub cell_of_shown : Shown → Cell
cell_of_shown shown = record { value = shown.value.now; entry = shown.entry.0; position = shown.position }
