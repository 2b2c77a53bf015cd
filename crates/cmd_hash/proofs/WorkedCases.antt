-- The worked cases of the commands on hashes, from the definitions by evaluation alone.
use Rattle.std.proofs.Common.{◌≡◌, ℕ, List, [], ◌∷◌, None, Some, pos, negsuc, codes}
use Rattle.std.specs.Fmt.{digits}
use Rattle.kv_types.specs.declared.change.Change.{Change}
use Rattle.kv_types.specs.declared.change.Change.TheVariants.{Put, Drop}
use Rattle.kv_types.specs.declared.record_id.RecordId.TheVariants.{Str, Field}
use Rattle.kv_types.specs.Keyspace.{Keyspace, play_all}
use Rattle.cmd_core.specs.declared.error.CommandError.TheVariants.{NotAnInteger, HashNotAnInteger, Overflow, WrongType}
use Rattle.cmd_core.specs.Contents.{has_key, kind_at, Absent, fields_of}
use Rattle.cmd_core.specs.Integer.{int_of}
use Rattle.cmd_core.specs.Outcome.{Answers, Fails, Integer, Bulk, Bulks, changes_of, reads}
use Rattle.cmd_hash.specs.Counter.{hincrby}
use Rattle.cmd_hash.specs.Reading.{hget, hmget, hexists, hstrlen}
use Rattle.cmd_hash.specs.Whole.{hlen, hgetall, hkeys, hvals}
use Rattle.cmd_hash.specs.Writing.{hset, hsetnx, hdel}

-- a string a, and a hash h whose fields are the empty one, f, which is no integer, and n, which is the greatest
abbrev s : Keyspace
s = (Str (codes "a"), codes "1") ∷ (Field (codes "h") [], []) ∷ (Field (codes "h") (codes "f"), codes "two") ∷ (Field (codes "h") (codes "n"), codes "9223372036854775807") ∷ []

abbrev put : (field value : List ℕ) → Change
put field value = Put (Field (codes "h") field) value

abbrev three_pairs : List (List ℕ)
three_pairs = codes "h" ∷ codes "b" ∷ codes "1" ∷ codes "a" ∷ codes "2" ∷ codes "b" ∷ codes "3" ∷ []

abbrev made : Keyspace
made = play_all [] (changes_of (hset [] three_pairs))

abbrev one_field : Keyspace
one_field = play_all [] (changes_of (hset [] (codes "h" ∷ codes "f" ∷ codes "1" ∷ [])))

-- a hash that is made, read and counted in
record MadeCases : Type 0 where
  hset_of_a_field_twice : hset [] three_pairs ≡ Answers (Integer (pos 2)) (put (codes "b") (codes "1") ∷ put (codes "a") (codes "2") ∷ put (codes "b") (codes "3") ∷ [])
  hgetall_of_what_was_made : hgetall made (codes "h" ∷ []) ≡ reads (Bulks (Some (codes "a") ∷ Some (codes "2") ∷ Some (codes "b") ∷ Some (codes "3") ∷ []))
  hincrby_of_what_was_made : hincrby made (codes "h" ∷ codes "a" ∷ codes "5" ∷ []) ≡ Answers (Integer (pos 7)) (put (codes "a") (codes "7") ∷ [])
  -- a hash whose one field is removed
  hset_of_a_new_field : hset [] (codes "h" ∷ codes "f" ∷ codes "1" ∷ []) ≡ Answers (Integer (pos 1)) (put (codes "f") (codes "1") ∷ [])
  hdel_of_the_last_field : hdel one_field (codes "h" ∷ codes "f" ∷ []) ≡ Answers (Integer (pos 1)) (Drop (Field (codes "h") (codes "f")) ∷ [])
  no_hash_without_fields : kind_at (play_all one_field (changes_of (hdel one_field (codes "h" ∷ codes "f" ∷ [])))) (codes "h") ≡ Absent

made_cases : MadeCases
unfolding fields_of int_of digits has_key
made_cases = assumption

-- writing
record CommandCases : Type 0 where
  hset_of_an_old_field : hset s (codes "h" ∷ codes "f" ∷ codes "two" ∷ []) ≡ Answers (Integer (pos 0)) (put (codes "f") (codes "two") ∷ [])
  hset_of_a_string : hset s (codes "a" ∷ codes "f" ∷ codes "1" ∷ []) ≡ Fails WrongType
  hsetnx_of_an_old_field : hsetnx s (codes "h" ∷ [] ∷ codes "1" ∷ []) ≡ reads (Integer (pos 0))
  hsetnx_of_a_new_field : hsetnx s (codes "h" ∷ codes "g" ∷ codes "1" ∷ []) ≡ Answers (Integer (pos 1)) (put (codes "g") (codes "1") ∷ [])
  hsetnx_of_a_string : hsetnx s (codes "a" ∷ codes "f" ∷ codes "1" ∷ []) ≡ Fails WrongType
  hdel_of_a_field_twice : hdel s (codes "h" ∷ codes "n" ∷ codes "g" ∷ [] ∷ codes "n" ∷ [])
      ≡ Answers (Integer (pos 2)) (Drop (Field (codes "h") (codes "n")) ∷ Drop (Field (codes "h") []) ∷ [])
  hdel_of_an_absent_key : hdel s (codes "b" ∷ codes "f" ∷ []) ≡ reads (Integer (pos 0))
  hdel_of_a_string : hdel s (codes "a" ∷ codes "f" ∷ []) ≡ Fails WrongType
  -- reading fields
  hget_of_a_field : hget s (codes "h" ∷ codes "f" ∷ []) ≡ reads (Bulk (Some (codes "two")))
  hget_of_an_empty_value : hget s (codes "h" ∷ [] ∷ []) ≡ reads (Bulk (Some []))
  hget_of_an_absent_field : hget s (codes "h" ∷ codes "g" ∷ []) ≡ reads (Bulk None)
  hget_of_an_absent_key : hget s (codes "b" ∷ codes "f" ∷ []) ≡ reads (Bulk None)
  hget_of_a_string : hget s (codes "a" ∷ codes "f" ∷ []) ≡ Fails WrongType
  hmget_in_the_order_of_the_words : hmget s (codes "h" ∷ codes "f" ∷ codes "g" ∷ [] ∷ codes "f" ∷ []) ≡ reads (Bulks (Some (codes "two") ∷ None ∷ Some [] ∷ Some (codes "two") ∷ []))
  hmget_of_a_string : hmget s (codes "a" ∷ codes "f" ∷ []) ≡ Fails WrongType
  hexists_of_a_field : hexists s (codes "h" ∷ [] ∷ []) ≡ reads (Integer (pos 1))
  hexists_of_an_absent_field : hexists s (codes "h" ∷ codes "g" ∷ []) ≡ reads (Integer (pos 0))
  hexists_of_a_string : hexists s (codes "a" ∷ [] ∷ []) ≡ Fails WrongType
  hstrlen_of_a_field : hstrlen s (codes "h" ∷ codes "n" ∷ []) ≡ reads (Integer (pos 19))
  hstrlen_of_an_absent_field : hstrlen s (codes "h" ∷ codes "g" ∷ []) ≡ reads (Integer (pos 0))
  hstrlen_of_a_string : hstrlen s (codes "a" ∷ codes "f" ∷ []) ≡ Fails WrongType
  -- reading a whole hash
  hlen_of_three_fields : hlen s (codes "h" ∷ []) ≡ reads (Integer (pos 3))
  hlen_of_a_string : hlen s (codes "a" ∷ []) ≡ Fails WrongType
  hgetall_of_an_absent_key : hgetall s (codes "b" ∷ []) ≡ reads (Bulks [])
  hgetall_of_a_string : hgetall s (codes "a" ∷ []) ≡ Fails WrongType
  hkeys_of_three_fields : hkeys s (codes "h" ∷ []) ≡ reads (Bulks (Some [] ∷ Some (codes "f") ∷ Some (codes "n") ∷ []))
  hkeys_of_a_string : hkeys s (codes "a" ∷ []) ≡ Fails WrongType
  hvals_of_three_fields : hvals s (codes "h" ∷ []) ≡ reads (Bulks (Some [] ∷ Some (codes "two") ∷ Some (codes "9223372036854775807") ∷ []))
  hvals_of_a_string : hvals s (codes "a" ∷ []) ≡ Fails WrongType
  -- counting
  hincrby_of_an_absent_field : hincrby s (codes "b" ∷ codes "f" ∷ codes "-7" ∷ []) ≡ Answers (Integer (negsuc 6)) (Put (Field (codes "b") (codes "f")) (codes "-7") ∷ [])
  hincrby_of_the_greatest : hincrby s (codes "h" ∷ codes "n" ∷ codes "1" ∷ []) ≡ Fails Overflow
  hincrby_of_no_integer : hincrby s (codes "h" ∷ codes "f" ∷ codes "1" ∷ []) ≡ Fails HashNotAnInteger
  hincrby_of_an_empty_value : hincrby s (codes "h" ∷ [] ∷ codes "1" ∷ []) ≡ Fails HashNotAnInteger
  hincrby_of_a_string : hincrby s (codes "a" ∷ codes "f" ∷ codes "1" ∷ []) ≡ Fails WrongType
  -- before the key is looked at
  hincrby_by_no_integer : hincrby s (codes "a" ∷ codes "f" ∷ codes "01" ∷ []) ≡ Fails NotAnInteger

command_cases : CommandCases
unfolding fields_of int_of digits
command_cases = assumption
