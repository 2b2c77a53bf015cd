-- The meaning of the commands that read fields by their names: the Redis page of each. The arguments are the words after the name.
use Rattle.std.specs.Prelude.{ℕ, pos, map, if◌then◌else◌, List, [], ◌∷◌, length, Option, Some, None}
use Rattle.kv_types.specs.Keyspace.{Keyspace}
use Rattle.cmd_core.specs.Outcome.{Outcome, Integer, Bulk, Bulks, reads, excluded}
use Rattle.cmd_hash.specs.Hash.{on_hash, value_of, has_field}

abbrev pub hget : Keyspace → List (List ℕ) → Outcome
hget s (key ∷ field ∷ []) = on_hash s key (reads (Bulk (value_of s key field)))
hget s _ = excluded

-- one for each word, in their order
abbrev pub hmget : Keyspace → List (List ℕ) → Outcome
hmget s (key ∷ fields) = on_hash s key (reads (Bulks (map (λ field. value_of s key field) fields)))
hmget s _ = excluded

abbrev pub hexists : Keyspace → List (List ℕ) → Outcome
hexists s (key ∷ field ∷ []) = on_hash s key (reads (Integer (pos (if has_field s key field then 1 else 0))))
hexists s _ = excluded

-- an absent field has no bytes
abbrev pub length_of : Option (List ℕ) → ℕ
length_of None = 0
length_of (Some value) = length value

abbrev pub hstrlen : Keyspace → List (List ℕ) → Outcome
hstrlen s (key ∷ field ∷ []) = on_hash s key (reads (Integer (pos (length_of (value_of s key field)))))
hstrlen s _ = excluded
