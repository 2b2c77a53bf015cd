-- The worked cases of reading and answering requests, from the definitions by evaluation alone.
use Rattle.std.proofs.Common.{◌≡◌, ℕ, true, false, List, [], ◌∷◌, None, Some, Ok, Err, pos, codes, replicate, refl}
use Rattle.kv_types.specs.declared.change.Change.TheVariants.{Put, DropKey}
use Rattle.kv_types.specs.declared.record_id.RecordId.TheVariants.{Str, Field}
use Rattle.kv_types.specs.declared.reply.Reply.{Simple, Error, Int, Bulk}
use Rattle.kv_types.specs.Keyspace.{Keyspace}
use Rattle.cmd_core.specs.Contents.{has_key}
use Rattle.cmd_core.specs.Shape.{takes, are_short}
use Rattle.cmd_table.specs.declared.misuse.Misuse.TheVariants.{UnknownName, WrongNumberOfWords, LongKey}
use Rattle.kv_types.specs.declared.command_name.CommandName.TheVariants as name
use Rattle.kv_types.specs.CommandName.{is_named}
use Rattle.cmd_table.specs.Row.{row, command_named}
use Rattle.cmd_table.specs.Command.{read_command}
use Rattle.cmd_table.specs.Request.{outcome_of_words, closes}

-- ---- names

get_in_any_case : command_named (codes "gEt") ≡ Some name.Get
unfolding is_named
get_in_any_case = refl

part_of_a_name : command_named (codes "GE") ≡ None
unfolding is_named
part_of_a_name = refl

-- SET begins it, and it is a name of its own
longer_name : command_named (codes "SETNX") ≡ Some name.SetNx
unfolding is_named
longer_name = refl

more_than_a_name : command_named (codes "GETS") ≡ None
unfolding is_named
more_than_a_name = refl

empty_name : command_named [] ≡ None
unfolding is_named
empty_name = refl

not_served : command_named (codes "WATCH") ≡ None
unfolding is_named
not_served = refl

-- ---- the order of refusals

no_words : read_command [] ≡ Err UnknownName
no_words = refl

-- a key of 512 bytes is a key, one of 513 is too long
longest_key : read_command (codes "GET" ∷ replicate 512 107 ∷ []) ≡ Ok (record { name = name.Get; arguments = replicate 512 107 ∷ [] })
unfolding is_named
longest_key = refl

long_key : read_command (codes "GET" ∷ replicate 513 107 ∷ []) ≡ Err LongKey
unfolding is_named
long_key = refl

unknown_name_and_long_word : read_command (codes "NOSUCH" ∷ replicate 513 107 ∷ []) ≡ Err UnknownName
unfolding is_named
unknown_name_and_long_word = refl

long_key_and_one_word_more : read_command (codes "GET" ∷ replicate 513 107 ∷ codes "x" ∷ []) ≡ Err (WrongNumberOfWords name.Get)
unfolding is_named
long_key_and_one_word_more = refl

-- ---- number of words

set_of_a_key : read_command (codes "SET" ∷ codes "a" ∷ []) ≡ Err (WrongNumberOfWords name.Set)
unfolding is_named
set_of_a_key = refl

ping_of_two : read_command (codes "PING" ∷ codes "a" ∷ codes "b" ∷ []) ≡ Err (WrongNumberOfWords name.Ping)
unfolding is_named
ping_of_two = refl

mset_of_a_key_without_a_value : read_command (codes "MSET" ∷ codes "a" ∷ codes "1" ∷ codes "b" ∷ []) ≡ Err (WrongNumberOfWords name.MSet)
unfolding is_named
mset_of_a_key_without_a_value = refl

mset_of_none : read_command (codes "MSET" ∷ []) ≡ Err (WrongNumberOfWords name.MSet)
unfolding is_named
mset_of_none = refl

hset_of_a_field_without_a_value : takes (row name.HSet).words 5 ≡ false
hset_of_a_field_without_a_value = refl

-- ---- which words are keys or fields

abbrev long : List ℕ
long = replicate 513 107

long_value : are_short (row name.MSet).keys (codes "a" ∷ long ∷ codes "b" ∷ long ∷ []) ≡ true
long_value = refl

long_second_key : are_short (row name.MSet).keys (codes "a" ∷ codes "1" ∷ long ∷ codes "2" ∷ []) ≡ false
long_second_key = refl

long_last_key : are_short (row name.Del).keys (codes "a" ∷ codes "b" ∷ long ∷ []) ≡ false
long_last_key = refl

long_text_of_ping : are_short (row name.Ping).keys (long ∷ []) ≡ true
long_text_of_ping = refl

long_value_of_a_field : are_short (row name.HSet).keys (codes "h" ∷ codes "f" ∷ long ∷ codes "g" ∷ long ∷ []) ≡ true
long_value_of_a_field = refl

long_second_field : are_short (row name.HSet).keys (codes "h" ∷ codes "f" ∷ codes "1" ∷ long ∷ codes "2" ∷ []) ≡ false
long_second_field = refl

long_value_of_hsetnx : are_short (row name.HSetNx).keys (codes "h" ∷ codes "f" ∷ long ∷ []) ≡ true
long_value_of_hsetnx = refl

-- ---- what a request is answered, and what it changes

-- a string a, and a hash h of one field
abbrev s : Keyspace
s = (Str (codes "a"), codes "one") ∷ (Field (codes "h") (codes "f"), codes "1") ∷ []

misuse_is_answered : outcome_of_words s (codes "TYPE" ∷ []) ≡ record { reply = Error (codes "ERR wrong number of arguments for 'type' command"); changes = [] }
unfolding outcome_of_words is_named
misuse_is_answered = refl

unknown_name_is_answered : outcome_of_words s (codes "NOSUCH" ∷ codes "a" ∷ []) ≡ record { reply = Error (codes "ERR unknown command"); changes = [] }
unfolding outcome_of_words is_named
unknown_name_is_answered = refl

-- the options are looked at in the run
long_key_before_options : outcome_of_words s (codes "SET" ∷ long ∷ codes "1" ∷ codes "EX" ∷ []) ≡ record { reply = Error (codes "ERR key or field is longer than 512 bytes"); changes = [] }
unfolding outcome_of_words is_named
long_key_before_options = refl

get_answers : outcome_of_words s (codes "get" ∷ codes "a" ∷ []) ≡ record { reply = Bulk (codes "one"); changes = [] }
unfolding outcome_of_words is_named
get_answers = refl

set_changes : outcome_of_words s (codes "Set" ∷ codes "h" ∷ codes "x" ∷ []) ≡ record { reply = Simple (codes "OK"); changes = Put (Str (codes "h")) (codes "x") ∷ [] }
unfolding outcome_of_words is_named
set_changes = refl

del_changes : outcome_of_words s (codes "DEL" ∷ codes "h" ∷ codes "b" ∷ codes "h" ∷ []) ≡ record { reply = Int (pos 1); changes = DropKey (codes "h") ∷ [] }
unfolding outcome_of_words is_named has_key
del_changes = refl

error_changes_nothing : outcome_of_words s (codes "APPEND" ∷ codes "h" ∷ codes "x" ∷ []) ≡ record { reply = Error (codes "WRONGTYPE Operation against a key holding the wrong kind of value"); changes = [] }
unfolding outcome_of_words is_named has_key
error_changes_nothing = refl

unwatch_answers : outcome_of_words s (codes "UNWATCH" ∷ []) ≡ record { reply = Simple (codes "OK"); changes = [] }
unfolding outcome_of_words is_named
unwatch_answers = refl

-- this one is a session's alone
multi_is_no_command_here : outcome_of_words s (codes "MULTI" ∷ []) ≡ record { reply = Error (codes "ERR unknown command"); changes = [] }
unfolding outcome_of_words is_named
multi_is_no_command_here = refl

quit_closes : closes (codes "Quit" ∷ codes "now" ∷ []) ≡ true
unfolding closes is_named
quit_closes = refl

get_does_not_close : closes (codes "GET" ∷ codes "quit" ∷ []) ≡ false
unfolding closes is_named
get_does_not_close = refl
