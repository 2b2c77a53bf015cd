-- Tests of one record of a keyspace, and where a list of records is cut by one.
use Rattle.std.specs.Prelude.{◌≡◌, ℕ, ◌≤◌, Bool, true, false, if◌then◌else◌, List, [], ◌∷◌, length, Option, Some, None}
use Rattle.std.specs.List.Sorted.{IsPartitionPoint}
use Rattle.std.specs.Ordering.{is_lt, is_le, eq_by_cmp}
use Rattle.kv_types.specs.declared.record_id.RecordId.{RecordId}
use Rattle.kv_types.specs.declared.record_id.RecordId.TheVariants.{Str, Field}
use Rattle.kv_types.specs.Keyspace.{Keyspace, key_of, bytes_cmp, record_cmp}
use Rattle.cmd_core.specs.Contents.{same_bytes}

-- the field that a record is, where it is one of this key
abbrev pub field_at : RecordId → List ℕ → Option (List ℕ)
field_at (Str own) key = None
field_at (Field own field) key = if same_bytes own key then Some field else None

-- the first record is one of this key
abbrev pub next_has_key : Keyspace → List ℕ → Bool
next_has_key [] key = false
next_has_key (next ∷ s) key = same_bytes (key_of next.0) key

-- the value of the first record, where it is this one
abbrev pub first_value : Keyspace → RecordId → Option (List ℕ)
first_value [] id = None
first_value (first ∷ s) id = if eq_by_cmp record_cmp id first.0 then Some first.1 else None

-- the other record comes before this one in the order of records
abbrev pub comes_before : RecordId → RecordId → Bool
comes_before id other = is_lt (record_cmp other id)

-- the other record is this one, or comes before it
abbrev pub is_up_to : RecordId → RecordId → Bool
is_up_to id other = is_le (record_cmp other id)

-- the record is of this key, or of one before it
abbrev pub has_key_up_to : List ℕ → RecordId → Bool
has_key_up_to key id = is_le (bytes_cmp (key_of id) key)

-- the first n elements of a list pass the test, and the others do not
abbrev pub SplitsAt : {A : Type 0} → (A → Bool) → List A → ℕ → Type 0
SplitsAt passes xs n = (n ≤ length xs) × IsPartitionPoint (λ x. passes x ≡ true) (λ x. passes x ≡ false) xs n
