-- The meaning of the commands that read a whole hash, in ascending bytes of the field: the Redis page of each (the order is this project's
-- profile). The arguments are the words after the name.
use Rattle.std.specs.Prelude.{ℕ, pos, map, List, [], ◌∷◌, length, Option, Some}
use Rattle.kv_types.specs.Keyspace.{Keyspace}
use Rattle.cmd_core.specs.Contents.{fields_of}
use Rattle.cmd_core.specs.Outcome.{Outcome, Integer, Bulks, reads, excluded}
use Rattle.cmd_hash.specs.Hash.{on_hash}

abbrev pub hlen : Keyspace → List (List ℕ) → Outcome
hlen s (key ∷ []) = on_hash s key (reads (Integer (pos (length (fields_of s key)))))
hlen s _ = excluded

-- fields and values by turns
abbrev pub by_turns : List (List ℕ × List ℕ) → List (Option (List ℕ))
by_turns [] = []
by_turns ((field, value) ∷ fields) = Some field ∷ Some value ∷ by_turns fields

abbrev pub hgetall : Keyspace → List (List ℕ) → Outcome
hgetall s (key ∷ []) = on_hash s key (reads (Bulks (by_turns (fields_of s key))))
hgetall s _ = excluded

abbrev pub hkeys : Keyspace → List (List ℕ) → Outcome
hkeys s (key ∷ []) = on_hash s key (reads (Bulks (map (λ entry. Some entry.0) (fields_of s key))))
hkeys s _ = excluded

abbrev pub hvals : Keyspace → List (List ℕ) → Outcome
hvals s (key ∷ []) = on_hash s key (reads (Bulks (map (λ entry. Some entry.1) (fields_of s key))))
hvals s _ = excluded
