-- The rows of a map with one slot a key.
use Rattle.std.specs.Prelude.{◌≡◌, ℕ, ◌+◌, Bool, false, ◌||◌, cond, List, [], ◌∷◌, ◌++◌, length, Option, Some, None, IsSome}
use Rattle.std.specs.List.{AllByRecursion}
use Rattle.std.specs.List.Sorted.{IsStrictlySortedBy}
use Rattle.std.specs.Map.{keys_of, lookup}
use Rattle.std.specs.BTreeMap.{is_at}
use Rattle.kv_types.specs.declared.record_id.RecordId.{RecordId}
use Rattle.kv_types.specs.declared.record_id.RecordId.TheVariants.{Str, Field}
use Rattle.kv_types.specs.Keyspace.{key_of, bytes_cmp}
use Rattle.mv_keyspace.specs.declared.row.Row.{Row}
use Rattle.mv_keyspace.specs.declared.slot.Slot.{Slot}
use Rattle.model.specs.declared.group.PlacedChange.{PlacedChange}
use Rattle.model.specs.declared.group.PlacedChange.TheVariants as placed
use Rattle.model.specs.Group.{change_of}
use Rattle.mv_keyspace.specs.Keys.{changed_key}
use Rattle.mv_keyspace.specs.Row.{ended_rows, table_of}
use Rattle.mv_keyspace.specs.Slot.{rows_of, awaited_in, is_list}
use Rattle.mv_keyspace.specs.Table.{Table, place}

-- the keys in order, each with its slot
abbrev pub Slots : Type 0
Slots = List (List ℕ × Slot)

-- the rows of all slots
abbrev pub rows_in : Slots → List Row
rows_in [] = []
rows_in (e ∷ es) = rows_of e.0 e.1 ++ rows_in es

abbrev pub slot_at : List ℕ → Slots → Option Slot
slot_at key es = lookup (is_at (bytes_cmp key)) es

abbrev pub rows_of_slot : List ℕ → Option Slot → List Row
rows_of_slot key None = []
rows_of_slot key (Some slot) = rows_of key slot

-- the rows of a key
abbrev pub rows_at : List ℕ → Slots → List Row
rows_at key es = rows_of_slot key (slot_at key es)

abbrev pub awaited_of : Option Slot → ℕ
awaited_of None = 0
awaited_of (Some slot) = awaited_in slot

-- how many puts the slot of a key awaits
abbrev pub awaited_at : List ℕ → Slots → ℕ
awaited_at key es = awaited_of (slot_at key es)

abbrev pub is_list_of : Option Slot → Bool
is_list_of None = false
is_list_of (Some slot) = is_list slot

-- the slot of a key has a list, with room for the rows that it awaits
abbrev pub is_list_at : List ℕ → Slots → Bool
is_list_at key es = is_list_of (slot_at key es)

-- all rows are of this key
abbrev pub AreOfKey : List ℕ → Table → Type 0
AreOfKey key = AllByRecursion (λ row. key_of row.0 ≡ key)

-- The keys rise, and each slot has rows of its own key only.
pub record AreSlots (es : Slots) : Type 0 where
  pub sorted : IsStrictlySortedBy bytes_cmp (keys_of es)
  pub own : AllByRecursion (λ (e : List ℕ × Slot). AreOfKey e.0 (table_of (rows_of e.0 e.1))) es

-- how many rows of a key a change makes
abbrev pub awaits_of : List ℕ → PlacedChange → ℕ
awaits_of key (placed.Put put) = cond (is_at (bytes_cmp (key_of put.id)) key) 1 0
awaits_of key (placed.Drop id) = 0
awaits_of key (placed.DropKey other) = 0
awaits_of key placed.Clear = 0

-- and how many the changes make
abbrev pub awaits : List ℕ → List PlacedChange → ℕ
awaits key [] = 0
awaits key (change ∷ changes) = awaits_of key change + awaits key changes

-- the record is a field of this key
abbrev pub is_field_of : List ℕ → RecordId → Bool
is_field_of key (Str own) = false
is_field_of key (Field own field) = is_at (bytes_cmp own) key

-- a change makes a field of a key
abbrev pub makes_field_of : List ℕ → PlacedChange → Bool
makes_field_of key (placed.Put put) = is_field_of key put.id
makes_field_of key (placed.Drop id) = false
makes_field_of key (placed.DropKey other) = false
makes_field_of key placed.Clear = false

-- and one of the changes does
abbrev pub makes_fields : List ℕ → List PlacedChange → Bool
makes_fields key [] = false
makes_fields key (change ∷ changes) = makes_field_of key change || makes_fields key changes

-- each change is of one key
abbrev pub AreKeyed : List PlacedChange → Type 0
AreKeyed = AllByRecursion (λ change. IsSome (changed_key (change_of change)))

-- how many entries the changes end that are made at one position
abbrev pub ends : ℕ → Table → List PlacedChange → ℕ
ends position table [] = 0
ends position table (change ∷ changes) = length (ended_rows (change_of change) table) + ends position (place position table change) changes

-- how many rows of this table each of the changes would end, summed
abbrev pub ends_at_once : Table → List PlacedChange → ℕ
ends_at_once table [] = 0
ends_at_once table (change ∷ changes) = length (ended_rows (change_of change) table) + ends_at_once table changes
