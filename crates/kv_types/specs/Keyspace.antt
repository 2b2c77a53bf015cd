-- The keyspace: a finite map from each key to a byte string or to a nonempty map from fields to byte strings (the key and hash pages of the
-- Redis documentation), kept as the sorted list of its records.
use Rattle.std.specs.Prelude.{◌≡◌, ℕ, not, List, [], ◌∷◌, Option, None, Some, IsTrue, IsSome, nat_eq}
use Rattle.std.specs.declared.cmp.Ordering.{Ordering}
use Rattle.std.specs.Ordering.{nat_cmp, on, then_cmp, eq_by_cmp}
use Rattle.std.specs.Option.{option_cmp}
use Rattle.std.specs.Cmp.Lexicographic.{slice_cmp, pointwise}
use Rattle.std.specs.FinMap.Entries.{put, find, where_key, is_sorted}
use Rattle.kv_types.specs.declared.record_id.RecordId.{RecordId}
use Rattle.kv_types.specs.declared.record_id.RecordId.TheVariants.{Str, Field}
use Rattle.kv_types.specs.declared.change.Change.{Change}
use Rattle.kv_types.specs.declared.change.Change.TheVariants.{Put, Drop, DropKey, Clear}

abbrev pub key_of : RecordId → List ℕ
key_of (Str key) = key
key_of (Field key field) = key

abbrev pub field_of : RecordId → Option (List ℕ)
field_of (Str key) = None
field_of (Field key field) = Some field

abbrev pub bytes_cmp : List ℕ → List ℕ → Ordering
bytes_cmp = slice_cmp nat_cmp

-- by the bytes of the key; then a string comes before fields; then by the bytes of the field
abbrev pub record_cmp : RecordId → RecordId → Ordering
record_cmp = then_cmp (on key_of bytes_cmp) (on field_of (option_cmp bytes_cmp))

-- the records with their values; `IsKeyspace` says that they are sorted, each once
abbrev pub Keyspace : Type 0
Keyspace = List (RecordId × List ℕ)

abbrev pub value_at : Keyspace → RecordId → Option (List ℕ)
value_at s id = find record_cmp id s

-- the records are sorted, each once, and no key is both a string and a hash
pub record IsKeyspace (s : Keyspace) : Type 0 where
  pub sorted : IsTrue (is_sorted record_cmp s)
  pub one_kind : (key field : List ℕ) → IsSome (value_at s (Str key)) → value_at s (Field key field) ≡ None

abbrev pub with_record : RecordId → List ℕ → Keyspace → Keyspace
with_record = put record_cmp

abbrev pub without_record : RecordId → Keyspace → Keyspace
without_record id = where_key record_cmp (λ other. not (eq_by_cmp record_cmp other id))

abbrev pub without_key : List ℕ → Keyspace → Keyspace
without_key key = where_key record_cmp (λ other. not (pointwise nat_eq (key_of other) key))

-- The keyspace after a change. Writing a string replaces whatever the key held; writing a field replaces a string.
abbrev pub play : Keyspace → Change → Keyspace
play s (Put (Str key) value) = with_record (Str key) value (without_key key s)
play s (Put (Field key field) value) = with_record (Field key field) value (without_record (Str key) s)
play s (Drop id) = without_record id s
play s (DropKey key) = without_key key s
play s Clear = []

-- the keyspace after the changes, played in order
abbrev pub play_all : Keyspace → List Change → Keyspace
play_all s [] = s
play_all s (change ∷ changes) = play_all (play s change) changes
