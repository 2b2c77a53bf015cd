-- Which keys changes modify, for the sessions that watch them (the Redis page of WATCH: a key is modified where it is written or removed).
use Rattle.std.specs.Prelude.{ℕ, Bool, true, false, ◌||◌, ◌&&◌, List}
use Rattle.std.specs.List.{list_any}
use Rattle.kv_types.specs.declared.change.Change.{Change}
use Rattle.kv_types.specs.declared.change.Change.TheVariants.{Put, Drop, DropKey, Clear}
use Rattle.kv_types.specs.Keyspace.{Keyspace, key_of}
use Rattle.cmd_core.specs.Contents.{same_bytes, has_key}

-- A change is one of this key. One that clears the keyspace is of none.
abbrev pub names : List ℕ → Change → Bool
names own (Put id value) = same_bytes own (key_of id)
names own (Drop id) = same_bytes own (key_of id)
names own (DropKey key) = same_bytes own key
names own Clear = false

-- a change clears the keyspace
abbrev pub is_clear : Change → Bool
is_clear Clear = true
is_clear _ = false

-- Changes, made on a keyspace in order, modify this key: one of them is of the key, or one clears the keyspace and the key was there. (A key
-- that an earlier one of them put is one that this one is of.)
abbrev pub modifies : Keyspace → List Change → List ℕ → Bool
modifies s changes own = list_any (names own) changes || (list_any is_clear changes && has_key s own)
