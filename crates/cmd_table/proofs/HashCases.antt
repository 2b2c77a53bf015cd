-- The worked cases of requests on hashes, from the definitions by evaluation alone.
use Rattle.std.proofs.Common.{◌≡◌, ℕ, List, [], ◌∷◌, Some, Err, pos, codes, refl}
use Rattle.kv_types.specs.declared.change.Change.TheVariants.{Put, Drop}
use Rattle.kv_types.specs.declared.record_id.RecordId.TheVariants.{Str, Field}
use Rattle.kv_types.specs.declared.reply.Reply.{Error, Int, Bulk, NullBulk, Array}
use Rattle.kv_types.specs.Keyspace.{Keyspace}
use Rattle.cmd_core.specs.Contents.{fields_of}
use Rattle.cmd_core.specs.Integer.{int_of}
use Rattle.std.specs.Fmt.{digits}
use Rattle.cmd_table.specs.declared.misuse.Misuse.TheVariants.{WrongNumberOfWords}
use Rattle.kv_types.specs.declared.command_name.CommandName.TheVariants as name
use Rattle.kv_types.specs.CommandName.{is_named}
use Rattle.cmd_table.specs.Row.{command_named}
use Rattle.cmd_table.specs.Command.{read_command}
use Rattle.cmd_table.specs.Request.{Effect, effect_of_reading}

hash_command_in_any_case : command_named (codes "hGetAll") ≡ Some name.HGetAll
unfolding is_named
hash_command_in_any_case = refl

-- HSET begins it, and it is a name of its own
longer_name : command_named (codes "HSETNX") ≡ Some name.HSetNx
unfolding is_named
longer_name = refl

-- ---- number of words

field_without_a_value : read_command (codes "HSET" ∷ codes "h" ∷ codes "f" ∷ codes "1" ∷ codes "g" ∷ []) ≡ Err (WrongNumberOfWords name.HSet)
unfolding is_named
field_without_a_value = refl

hset_of_no_field : read_command (codes "HSET" ∷ codes "h" ∷ []) ≡ Err (WrongNumberOfWords name.HSet)
unfolding is_named
hset_of_no_field = refl

hmget_of_no_field : read_command (codes "HMGET" ∷ codes "h" ∷ []) ≡ Err (WrongNumberOfWords name.HMGet)
unfolding is_named
hmget_of_no_field = refl

-- ---- what a request is answered, and what it changes

-- a string a, and a hash h of one field
abbrev s : Keyspace
s = (Str (codes "a"), codes "one") ∷ (Field (codes "h") (codes "f"), codes "1") ∷ []

abbrev effect : List (List ℕ) → Effect
effect words = effect_of_reading s (read_command words)

hset_changes : effect (codes "HSet" ∷ codes "h" ∷ codes "f" ∷ codes "2" ∷ codes "g" ∷ codes "3" ∷ [])
    ≡ record { reply = Int (pos 1); changes = Put (Field (codes "h") (codes "f")) (codes "2") ∷ Put (Field (codes "h") (codes "g")) (codes "3") ∷ [] }
unfolding is_named
hset_changes = refl

hset_of_a_string : effect (codes "HSET" ∷ codes "a" ∷ codes "f" ∷ codes "1" ∷ [])
    ≡ record { reply = Error (codes "WRONGTYPE Operation against a key holding the wrong kind of value"); changes = [] }
unfolding is_named
hset_of_a_string = refl

hsetnx_of_an_old_field : effect (codes "HSETNX" ∷ codes "h" ∷ codes "f" ∷ codes "2" ∷ []) ≡ record { reply = Int (pos 0); changes = [] }
unfolding is_named
hsetnx_of_an_old_field = refl

hget_answers : effect (codes "HGET" ∷ codes "h" ∷ codes "f" ∷ []) ≡ record { reply = Bulk (codes "1"); changes = [] }
unfolding is_named
hget_answers = refl

hmget_answers : effect (codes "HMGET" ∷ codes "h" ∷ codes "g" ∷ codes "f" ∷ []) ≡ record { reply = Array (NullBulk ∷ Bulk (codes "1") ∷ []); changes = [] }
unfolding is_named
hmget_answers = refl

hdel_changes : effect (codes "HDEL" ∷ codes "h" ∷ codes "f" ∷ codes "g" ∷ codes "f" ∷ []) ≡ record { reply = Int (pos 1); changes = Drop (Field (codes "h") (codes "f")) ∷ [] }
unfolding is_named
hdel_changes = refl

hlen_answers : effect (codes "HLEN" ∷ codes "h" ∷ []) ≡ record { reply = Int (pos 1); changes = [] }
unfolding is_named fields_of
hlen_answers = refl

hexists_answers : effect (codes "HEXISTS" ∷ codes "h" ∷ codes "f" ∷ []) ≡ record { reply = Int (pos 1); changes = [] }
unfolding is_named
hexists_answers = refl

hstrlen_answers : effect (codes "HSTRLEN" ∷ codes "h" ∷ codes "g" ∷ []) ≡ record { reply = Int (pos 0); changes = [] }
unfolding is_named
hstrlen_answers = refl

hgetall_answers : effect (codes "HGETALL" ∷ codes "h" ∷ []) ≡ record { reply = Array (Bulk (codes "f") ∷ Bulk (codes "1") ∷ []); changes = [] }
unfolding is_named fields_of
hgetall_answers = refl

hkeys_answers : effect (codes "HKEYS" ∷ codes "h" ∷ []) ≡ record { reply = Array (Bulk (codes "f") ∷ []); changes = [] }
unfolding is_named fields_of
hkeys_answers = refl

hvals_answers : effect (codes "HVALS" ∷ codes "h" ∷ []) ≡ record { reply = Array (Bulk (codes "1") ∷ []); changes = [] }
unfolding is_named fields_of
hvals_answers = refl

hincrby_changes : effect (codes "HINCRBY" ∷ codes "h" ∷ codes "f" ∷ codes "9" ∷ []) ≡ record { reply = Int (pos 10); changes = Put (Field (codes "h") (codes "f")) (codes "10") ∷ [] }
unfolding is_named int_of digits
hincrby_changes = refl

-- before the key is looked at
hincrby_by_no_integer : effect (codes "HINCRBY" ∷ codes "a" ∷ codes "f" ∷ codes "x" ∷ [])
    ≡ record { reply = Error (codes "ERR value is not an integer or out of range"); changes = [] }
unfolding is_named int_of digits
hincrby_by_no_integer = refl
