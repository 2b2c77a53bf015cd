-- The keys of a keyspace that a change does not touch, by which they are counted from change to change.
use Rattle.std.specs.Prelude.{ℕ, Bool, false, not, List, Option, Some, None}
use Rattle.std.specs.FinMap.Entries.{where_key}
use Rattle.kv_types.specs.declared.record_id.RecordId.{RecordId}
use Rattle.kv_types.specs.declared.change.Change.{Change}
use Rattle.kv_types.specs.declared.change.Change.TheVariants.{Put, Drop, DropKey, Clear}
use Rattle.kv_types.specs.Keyspace.{Keyspace, key_of, record_cmp}
use Rattle.cmd_core.specs.Contents.{keys_of, same_bytes}

-- the key whose records a change makes or ends; it is none where the change ends those of all keys
abbrev pub changed_key : Change → Option (List ℕ)
changed_key (Put id value) = Some (key_of id)
changed_key (Drop id) = Some (key_of id)
changed_key (DropKey key) = Some key
changed_key Clear = None

-- the record is of another key
abbrev pub is_of_other : Option (List ℕ) → RecordId → Bool
is_of_other (Some key) id = not (same_bytes (key_of id) key)
is_of_other None id = false

-- the keys that a change does not touch, each once
abbrev pub keys_beside : Change → Keyspace → List (List ℕ)
keys_beside change s = keys_of (where_key record_cmp (is_of_other (changed_key change)) s)
