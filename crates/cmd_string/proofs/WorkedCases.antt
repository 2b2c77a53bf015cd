-- The worked cases of the commands, from the definitions by evaluation alone.
use Rattle.std.proofs.Common.{◌≡◌, [], ◌∷◌, None, Some, pos, negsuc, codes}
use Rattle.std.specs.Fmt.{digits}
use Rattle.kv_types.specs.declared.change.Change.TheVariants.{Put, DropKey, Clear}
use Rattle.kv_types.specs.declared.record_id.RecordId.TheVariants.{Str, Field}
use Rattle.kv_types.specs.Keyspace.{Keyspace}
use Rattle.cmd_core.specs.declared.error.CommandError.TheVariants.{Syntax, NotAnInteger, Overflow, DecrementOverflow, WrongType}
use Rattle.cmd_core.specs.declared.outcome.Status.TheVariants as status
use Rattle.cmd_core.specs.Contents.{has_key, keys_of}
use Rattle.cmd_core.specs.Integer.{int_of}
use Rattle.cmd_core.specs.Outcome.{Answers, Fails, Simple, Integer, Bulk, Bulks, reads}
use Rattle.cmd_string.specs.Condition.{is_option}
use Rattle.cmd_string.specs.Connection.{ping}
use Rattle.cmd_string.specs.Counters.{incr, decr, incrby, decrby}
use Rattle.cmd_string.specs.Keys.{del, exists, type_of, dbsize, flushdb}
use Rattle.cmd_string.specs.Strings.{get, set, setnx, getdel, strlen, append, mget, mset, msetnx}

-- a string a, a hash h of two fields, and a string n that is the greatest integer
abbrev s : Keyspace
s = (Str (codes "a"), codes "one") ∷ (Field (codes "h") (codes "f"), codes "1") ∷ (Field (codes "h") (codes "g"), codes "2") ∷ (Str (codes "n"), codes "9223372036854775807") ∷ []

-- strings
record CommandCases : Type 0 where
  get_of_a_string : get s (codes "a" ∷ []) ≡ reads (Bulk (Some (codes "one")))
  get_of_an_absent_key : get s (codes "b" ∷ []) ≡ reads (Bulk None)
  get_of_a_hash : get s (codes "h" ∷ []) ≡ Fails WrongType
  set_over_a_hash : set s (codes "h" ∷ codes "x" ∷ []) ≡ Answers (Simple status.Ok) (Put (Str (codes "h")) (codes "x") ∷ [])
  set_nx_of_a_hash : set s (codes "h" ∷ codes "x" ∷ codes "NX" ∷ codes "nx" ∷ []) ≡ reads (Bulk None)
  set_xx_of_a_hash : set s (codes "h" ∷ codes "x" ∷ codes "xX" ∷ []) ≡ Answers (Simple status.Ok) (Put (Str (codes "h")) (codes "x") ∷ [])
  set_nx_and_xx : set s (codes "b" ∷ codes "x" ∷ codes "NX" ∷ codes "XX" ∷ []) ≡ Fails Syntax
  setnx_of_a_hash : setnx s (codes "h" ∷ codes "x" ∷ []) ≡ reads (Integer (pos 0))
  getdel_of_a_string : getdel s (codes "a" ∷ []) ≡ Answers (Bulk (Some (codes "one"))) (DropKey (codes "a") ∷ [])
  strlen_of_an_absent_key : strlen s (codes "b" ∷ []) ≡ reads (Integer (pos 0))
  append_of_no_bytes : append s (codes "a" ∷ [] ∷ []) ≡ Answers (Integer (pos 3)) (Put (Str (codes "a")) (codes "one") ∷ [])
  append_to_an_absent_key : append s (codes "b" ∷ codes "x" ∷ []) ≡ Answers (Integer (pos 1)) (Put (Str (codes "b")) (codes "x") ∷ [])
  mget_with_a_hash : mget s (codes "a" ∷ codes "h" ∷ codes "b" ∷ []) ≡ reads (Bulks (Some (codes "one") ∷ None ∷ None ∷ []))
  mset_of_a_key_twice : mset (codes "b" ∷ codes "1" ∷ codes "b" ∷ codes "2" ∷ []) ≡ Answers (Simple status.Ok) (Put (Str (codes "b")) (codes "1") ∷ Put (Str (codes "b")) (codes "2") ∷ [])
  msetnx_with_a_present_key : msetnx s (codes "b" ∷ codes "1" ∷ codes "h" ∷ codes "2" ∷ []) ≡ reads (Integer (pos 0))
  -- counters
  incr_of_an_absent_key : incr s (codes "b" ∷ []) ≡ Answers (Integer (pos 1)) (Put (Str (codes "b")) (codes "1") ∷ [])
  decr_of_an_absent_key : decr s (codes "b" ∷ []) ≡ Answers (Integer (negsuc 0)) (Put (Str (codes "b")) (codes "-1") ∷ [])
  incr_of_the_greatest : incr s (codes "n" ∷ []) ≡ Fails Overflow
  incr_of_no_integer : incr s (codes "a" ∷ []) ≡ Fails NotAnInteger
  incr_of_a_hash : incr s (codes "h" ∷ []) ≡ Fails WrongType
  incrby_of_a_leading_zero : incrby s (codes "h" ∷ codes "01" ∷ []) ≡ Fails NotAnInteger
  decrby_of_the_least : decrby s (codes "h" ∷ codes "-9223372036854775808" ∷ []) ≡ Fails DecrementOverflow
  -- keys
  del_of_a_key_twice : del s (codes "h" ∷ codes "b" ∷ codes "a" ∷ codes "h" ∷ []) ≡ Answers (Integer (pos 2)) (DropKey (codes "h") ∷ DropKey (codes "a") ∷ [])
  exists_of_a_key_twice : exists s (codes "h" ∷ codes "b" ∷ codes "a" ∷ codes "h" ∷ []) ≡ reads (Integer (pos 3))
  type_of_a_hash : type_of s (codes "h" ∷ []) ≡ reads (Simple status.Hash)
  dbsize_of_three_keys : dbsize s [] ≡ reads (Integer (pos 3))
  flushdb_of_three_keys : flushdb s [] ≡ Answers (Simple status.Ok) (Clear ∷ [])
  flushdb_of_nothing : flushdb [] [] ≡ reads (Simple status.Ok)
  flushdb_with_an_option : flushdb s (codes "ASYNC" ∷ []) ≡ Fails Syntax
  -- the connection
  ping_with_a_text : ping (codes "hi" ∷ []) ≡ reads (Bulk (Some (codes "hi")))

command_cases : CommandCases
unfolding has_key is_option digits int_of keys_of
command_cases = assumption
