-- What a look-up of any record finds after each change: the meaning of the changes as the Redis command pages (SET, HSET, DEL, HDEL,
-- FLUSHALL) state it, without mention of a list.
use Rattle.std.specs.Prelude.{◌≡◌, ◌≢◌, ℕ, List, Some, None}
use Rattle.kv_types.specs.declared.record_id.RecordId.{RecordId}
use Rattle.kv_types.specs.declared.record_id.RecordId.TheVariants.{Str, Field}
use Rattle.kv_types.specs.declared.change.Change.{Change}
use Rattle.kv_types.specs.declared.change.Change.TheVariants.{Put, Drop, DropKey, Clear}
use Rattle.kv_types.specs.Keyspace.{Keyspace, key_of, value_at}

-- a look-up of any record for which `Passes` holds finds the same in `new` as in `old`
abbrev pub Keeps : (RecordId → Type 0) → Keyspace → Keyspace → Type 0
Keeps Passes old new = (id : RecordId) → Passes id → value_at new id ≡ value_at old id

-- the string has the value, its key has no fields, and other keys are as they were
pub record PutsString (key value : List ℕ) (old new : Keyspace) : Type 0 where
  pub there : value_at new (Str key) ≡ Some value
  pub no_fields : (field : List ℕ) → value_at new (Field key field) ≡ None
  pub others : Keeps (λ id. key_of id ≢ key) old new

-- the field has the value, its key has no string, and other records are as they were
pub record PutsField (key field value : List ℕ) (old new : Keyspace) : Type 0 where
  pub there : value_at new (Field key field) ≡ Some value
  pub no_string : value_at new (Str key) ≡ None
  pub others : Keeps (λ id. (id ≢ Field key field) × (id ≢ Str key)) old new

-- the record is gone, and the other records are as they were
pub record DropsRecord (id : RecordId) (old new : Keyspace) : Type 0 where
  pub gone : value_at new id ≡ None
  pub others : Keeps (λ other. other ≢ id) old new

-- all records of the key are gone, and the other records are as they were
pub record DropsKey (key : List ℕ) (old new : Keyspace) : Type 0 where
  pub gone : (id : RecordId) → key_of id ≡ key → value_at new id ≡ None
  pub others : Keeps (λ id. key_of id ≢ key) old new

abbrev pub IsLookedUpAfter : Change → Keyspace → Keyspace → Type 0
IsLookedUpAfter (Put (Str key) value) old new = PutsString key value old new
IsLookedUpAfter (Put (Field key field) value) old new = PutsField key field value old new
IsLookedUpAfter (Drop id) old new = DropsRecord id old new
IsLookedUpAfter (DropKey key) old new = DropsKey key old new
IsLookedUpAfter Clear old new = (id : RecordId) → value_at new id ≡ None
