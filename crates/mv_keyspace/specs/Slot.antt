-- What the slot of a key has.
use Rattle.std.specs.Prelude.{ℕ, Bool, true, false, List, [], ◌∷◌}
use Rattle.kv_types.specs.declared.record_id.RecordId.{RecordId}
use Rattle.kv_types.specs.declared.record_id.RecordId.TheVariants.{Str, Field}
use Rattle.model.specs.declared.group.PlacedChange.{PlacedChange}
use Rattle.model.specs.declared.group.PlacedChange.TheVariants as placed
use Rattle.mv_keyspace.specs.declared.row.Row.{Row}
use Rattle.mv_keyspace.specs.declared.slot.Slot.{Slot}
use Rattle.mv_keyspace.specs.declared.slot.Slot.TheVariants as slot
use Rattle.mv_keyspace.specs.Version.{string_row}

-- the rows of a slot, which stands at this key
abbrev pub rows_of : List ℕ → Slot → List Row
rows_of key (slot.Vacant awaited) = []
rows_of key (slot.Str awaited version) = string_row key version ∷ []
rows_of key (slot.Rows list) = list.rows.items

-- how many puts the slot awaits
abbrev pub awaited_in : Slot → ℕ
awaited_in (slot.Vacant awaited) = awaited
awaited_in (slot.Str awaited version) = awaited
awaited_in (slot.Rows list) = list.awaited

-- the slot has a list of rows, with room for those that it awaits
abbrev pub is_list : Slot → Bool
is_list (slot.Vacant awaited) = false
is_list (slot.Str awaited version) = false
is_list (slot.Rows list) = true

-- the record is a field of a hash
abbrev pub is_field : RecordId → Bool
is_field (Str key) = false
is_field (Field key field) = true

-- the change makes a field
abbrev pub makes_field : PlacedChange → Bool
makes_field (placed.Put put) = is_field put.id
makes_field (placed.Drop id) = false
makes_field (placed.DropKey key) = false
makes_field placed.Clear = false
