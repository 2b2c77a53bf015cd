-- The meaning of the commands that write and remove fields: the Redis page of each. The arguments are the words after the name.
use Rattle.std.specs.Prelude.{ℕ, pos, map, not, if◌then◌else◌, List, [], ◌∷◌, length}
use Rattle.std.specs.List.{filter}
use Rattle.kv_types.specs.declared.record_id.RecordId.TheVariants.{Field}
use Rattle.kv_types.specs.declared.change.Change.{Change}
use Rattle.kv_types.specs.declared.change.Change.TheVariants.{Put, Drop}
use Rattle.kv_types.specs.Keyspace.{Keyspace}
use Rattle.cmd_core.specs.Naming.{firsts}
use Rattle.cmd_core.specs.Outcome.{Outcome, Answers, Integer, reads, excluded}
use Rattle.cmd_hash.specs.Hash.{on_hash, has_field}

-- fields and values by turns
abbrev pub pairs_of : List (List ℕ) → List (List ℕ × List ℕ)
pairs_of (field ∷ value ∷ more) = (field, value) ∷ pairs_of more
pairs_of _ = []

-- what is named twice is written twice
abbrev pub puts_of : (key : List ℕ) → List (List ℕ) → List Change
puts_of key words = map (λ pair. Put (Field key pair.0) pair.1) (pairs_of words)

-- the absent ones of the named fields, as often as named
abbrev pub absent : Keyspace → (key : List ℕ) → List (List ℕ) → List (List ℕ)
absent s key words = filter (λ field. not (has_field s key field)) (map (λ pair. pair.0) (pairs_of words))

-- a new field counts once
abbrev pub hset : Keyspace → List (List ℕ) → Outcome
hset s (key ∷ words) = on_hash s key (Answers (Integer (pos (length (firsts (absent s key words))))) (puts_of key words))
hset s _ = excluded

abbrev pub hsetnx : Keyspace → List (List ℕ) → Outcome
hsetnx s (key ∷ field ∷ value ∷ []) =
    on_hash s key (if has_field s key field then reads (Integer (pos 0)) else Answers (Integer (pos 1)) (Put (Field key field) value ∷ []))
hsetnx s _ = excluded

-- the named fields that are present, each once
abbrev pub removed : Keyspace → (key : List ℕ) → List (List ℕ) → List (List ℕ)
removed s key fields = firsts (filter (has_field s key) fields)

abbrev pub hdel : Keyspace → List (List ℕ) → Outcome
hdel s (key ∷ fields) =
    on_hash s key (Answers (Integer (pos (length (removed s key fields)))) (map (λ field. Drop (Field key field)) (removed s key fields)))
hdel s _ = excluded
