-- The meaning of the commands that read and write strings: the Redis page of each. The arguments are the words after the name.
use Rattle.std.specs.Prelude.{ℕ, pos, map, if◌then◌else◌, nat_le, List, [], ◌∷◌, ◌++◌, length, Option, Some, None}
use Rattle.std.specs.List.{list_any}
use Rattle.kv_types.specs.declared.limits.TheConstants.{MAX_VALUE_BYTES}
use Rattle.kv_types.specs.declared.record_id.RecordId.TheVariants.{Str}
use Rattle.kv_types.specs.declared.change.Change.{Change}
use Rattle.kv_types.specs.declared.change.Change.TheVariants.{Put, DropKey}
use Rattle.kv_types.specs.Keyspace.{Keyspace, value_at}
use Rattle.cmd_core.specs.declared.error.CommandError.TheVariants.{Syntax, LongString}
use Rattle.cmd_core.specs.declared.outcome.Status.TheVariants as status
use Rattle.cmd_core.specs.Contents.{has_key, string_at}
use Rattle.cmd_core.specs.Outcome.{Outcome, Answers, Fails, Simple, Integer, Bulk, Bulks, reads, excluded, on_ok, on_some}
use Rattle.cmd_string.specs.Condition.{condition_of, allows}

-- an absent string has no bytes
abbrev pub bytes_of : Option (List ℕ) → List ℕ
bytes_of None = []
bytes_of (Some value) = value

abbrev pub get : Keyspace → List (List ℕ) → Outcome
get s (key ∷ []) = on_ok (string_at s key) (λ value. reads (Bulk value))
get s _ = excluded

-- the options are looked at before the key
abbrev pub set : Keyspace → List (List ℕ) → Outcome
set s (key ∷ value ∷ options) =
    on_some Syntax (condition_of options)
    (λ condition. if allows condition (has_key s key) then Answers (Simple status.Ok) (Put (Str key) value ∷ []) else reads (Bulk None))
set s _ = excluded

abbrev pub setnx : Keyspace → List (List ℕ) → Outcome
setnx s (key ∷ value ∷ []) = if has_key s key then reads (Integer (pos 0)) else Answers (Integer (pos 1)) (Put (Str key) value ∷ [])
setnx s _ = excluded

abbrev pub taken : List ℕ → Option (List ℕ) → Outcome
taken key None = reads (Bulk None)
taken key (Some value) = Answers (Bulk (Some value)) (DropKey key ∷ [])

abbrev pub getdel : Keyspace → List (List ℕ) → Outcome
getdel s (key ∷ []) = on_ok (string_at s key) (λ value. taken key value)
getdel s _ = excluded

abbrev pub strlen : Keyspace → List (List ℕ) → Outcome
strlen s (key ∷ []) = on_ok (string_at s key) (λ value. reads (Integer (pos (length (bytes_of value)))))
strlen s _ = excluded

abbrev pub written : List ℕ → List ℕ → Outcome
written key bytes =
    if nat_le (length bytes) MAX_VALUE_BYTES then Answers (Integer (pos (length bytes))) (Put (Str key) bytes ∷ []) else Fails LongString

abbrev pub append : Keyspace → List (List ℕ) → Outcome
append s (key ∷ more ∷ []) = on_ok (string_at s key) (λ value. written key (bytes_of value ++ more))
append s _ = excluded

-- a hash is none here
abbrev pub mget : Keyspace → List (List ℕ) → Outcome
mget s keys = reads (Bulks (map (λ key. value_at s (Str key)) keys))

-- ---- keys and values by turns

abbrev pub keys_of_pairs : List (List ℕ) → List (List ℕ)
keys_of_pairs (key ∷ value ∷ more) = key ∷ keys_of_pairs more
keys_of_pairs _ = []

abbrev pub puts_of : List (List ℕ) → List Change
puts_of (key ∷ value ∷ more) = Put (Str key) value ∷ puts_of more
puts_of _ = []

abbrev pub mset : List (List ℕ) → Outcome
mset words = Answers (Simple status.Ok) (puts_of words)

-- all is written, or nothing
abbrev pub msetnx : Keyspace → List (List ℕ) → Outcome
msetnx s words = if list_any (has_key s) (keys_of_pairs words) then reads (Integer (pos 0)) else Answers (Integer (pos 1)) (puts_of words)
