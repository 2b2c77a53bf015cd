-- The meaning of the commands on keys, whatever they hold: the Redis page of each. The arguments are the words after the name.
use Rattle.std.specs.Prelude.{ℕ, pos, ◌==◌, map, if◌then◌else◌, List, [], ◌∷◌, length}
use Rattle.std.specs.List.{filter}
use Rattle.kv_types.specs.declared.change.Change.{Change}
use Rattle.kv_types.specs.declared.change.Change.TheVariants.{DropKey, Clear}
use Rattle.kv_types.specs.Keyspace.{Keyspace}
use Rattle.cmd_core.specs.declared.error.CommandError.TheVariants.{Syntax}
use Rattle.cmd_core.specs.declared.outcome.Status.{Status}
use Rattle.cmd_core.specs.declared.outcome.Status.TheVariants as status
use Rattle.cmd_core.specs.Contents.{has_key, Kind, Absent, String, Hash, kind_at, keys_of}
use Rattle.cmd_core.specs.Naming.{firsts}
use Rattle.cmd_core.specs.Outcome.{Outcome, Answers, Fails, Simple, Integer, reads, excluded}

-- the named keys that are present, each once
abbrev pub removed : Keyspace → List (List ℕ) → List (List ℕ)
removed s keys = firsts (filter (has_key s) keys)

abbrev pub del : Keyspace → List (List ℕ) → Outcome
del s keys = Answers (Integer (pos (length (removed s keys)))) (map DropKey (removed s keys))

-- counted as often as named
abbrev pub exists : Keyspace → List (List ℕ) → Outcome
exists s keys = reads (Integer (pos (length (filter (has_key s) keys))))

abbrev pub status_of : Kind → Status
status_of Absent = status.None
status_of String = status.String
status_of Hash = status.Hash

abbrev pub type_of : Keyspace → List (List ℕ) → Outcome
type_of s (key ∷ []) = reads (Simple (status_of (kind_at s key)))
type_of s _ = excluded

abbrev pub dbsize : Keyspace → List (List ℕ) → Outcome
dbsize s [] = reads (Integer (pos (length (keys_of s))))
dbsize s _ = excluded

abbrev pub cleared : Keyspace → List Change
cleared s = if length (keys_of s) == 0 then [] else Clear ∷ []

abbrev pub flushdb : Keyspace → List (List ℕ) → Outcome
flushdb s [] = Answers (Simple status.Ok) (cleared s)
flushdb s options = Fails Syntax
