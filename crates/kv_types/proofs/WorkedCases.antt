-- The worked cases of requests, faults, replies, changes and keyspaces, from the definitions by evaluation alone.
use Rattle.std.proofs.Common.{◌≡◌, [], ◌∷◌, pos, negsuc, codes}
use Rattle.std.specs.Fmt.{digits}
use Rattle.kv_types.specs.declared.change.Change.TheVariants.{Put, Drop, DropKey, Clear}
use Rattle.kv_types.specs.declared.item.Item.TheVariants.{Request, Fault}
use Rattle.kv_types.specs.declared.item.ProtocolFault.TheVariants.{ExpectedArray, InvalidMultibulkLength, ExpectedBulk, InvalidBulkLength, ExpectedLineEnd}
use Rattle.kv_types.specs.declared.limits.TheConstants.{REQUEST_LIMITS}
use Rattle.kv_types.specs.declared.record_id.RecordId.TheVariants.{Str, Field}
use Rattle.kv_types.specs.declared.reply.Reply.{Simple, Error, Int, Bulk, NullBulk, Array, NullArray}
use Rattle.kv_types.specs.declared.reply.Reply.TheBlock.{hidden-the_row-Reply-0}
use denote.Hole.Carrier.{hidden}
use Rattle.kv_types.specs.Change.{change_text, changes_text, changes_size}
use Rattle.kv_types.specs.Fault.{fault_message}
use Rattle.kv_types.specs.Keyspace.{play_all}
use Rattle.kv_types.specs.Reading.{items_at}
use Rattle.kv_types.specs.Request.{spelling}
use Rattle.kv_types.specs.Reply.{text_of}

-- requests and faults; a fault comes with the byte that makes it, and not before
record WorkedCases : Type 0 where
  set_of_a : items_at REQUEST_LIMITS (codes "*3\r\n$3\r\nSET\r\n$1\r\na\r\n$1\r\n1\r\n") ≡ Request (codes "SET" ∷ codes "a" ∷ codes "1" ∷ []) ∷ []
  spelling_of_a : spelling (codes "SET" ∷ codes "a" ∷ codes "1" ∷ []) ≡ codes "*3\r\n$3\r\nSET\r\n$1\r\na\r\n$1\r\n1\r\n"
  empty_array_before_ping : items_at REQUEST_LIMITS (codes "*0\r\n*1\r\n$4\r\nPING\r\n") ≡ Request (codes "PING" ∷ []) ∷ []
  leading_zero : items_at REQUEST_LIMITS (codes "*01") ≡ Fault InvalidMultibulkLength ∷ []
  before_leading_zero : items_at REQUEST_LIMITS (codes "*0") ≡ []
  word_of_1048577 : items_at REQUEST_LIMITS (codes "*1\r\n$1048577") ≡ Fault InvalidBulkLength ∷ []
  before_word_of_1048577 : items_at REQUEST_LIMITS (codes "*1\r\n$104857") ≡ []
  word_of_1048576 : items_at REQUEST_LIMITS (codes "*1\r\n$1048576\r\n") ≡ []
  word_of_65537 : items_at REQUEST_LIMITS (codes "*1\r\n$65537") ≡ []
  count_of_1025 : items_at REQUEST_LIMITS (codes "*1025") ≡ Fault InvalidMultibulkLength ∷ []
  before_count_of_1025 : items_at REQUEST_LIMITS (codes "*102") ≡ []
  count_of_1024 : items_at REQUEST_LIMITS (codes "*1024\r\n") ≡ []
  no_array : items_at REQUEST_LIMITS (codes "P") ≡ Fault ExpectedArray ∷ []
  no_bulk : items_at REQUEST_LIMITS (codes "*1\r\n:") ≡ Fault (ExpectedBulk 58) ∷ []
  before_no_bulk : items_at REQUEST_LIMITS (codes "*1\r\n") ≡ []
  bulk_and_x : items_at REQUEST_LIMITS (codes "*1\r\n$4\r\nPINGX") ≡ Fault ExpectedLineEnd ∷ []
  before_bulk_and_x : items_at REQUEST_LIMITS (codes "*1\r\n$4\r\nPING") ≡ []
  fault_after_request : items_at REQUEST_LIMITS (codes "*1\r\n$4\r\nPING\r\nPING") ≡ Request (codes "PING" ∷ []) ∷ Fault ExpectedArray ∷ []
  -- what a client is told of a fault
  shown_byte : fault_message (ExpectedBulk 58) ≡ codes "ERR Protocol error: expected '$', got ':'"
  hidden_byte : fault_message (ExpectedBulk 13) ≡ codes "ERR Protocol error: expected '$', got '?'"
  last_shown_byte : fault_message (ExpectedBulk 126) ≡ codes "ERR Protocol error: expected '$', got '~'"
  first_hidden_byte : fault_message (ExpectedBulk 127) ≡ codes "ERR Protocol error: expected '$', got '?'"
  -- replies
  simple : text_of (Simple (codes "OK")) ≡ codes "+OK\r\n"
  error : text_of (Error (codes "ERR unknown command")) ≡ codes "-ERR unknown command\r\n"
  integer : text_of (Int (pos 42)) ≡ codes ":42\r\n"
  negative_integer : text_of (Int (negsuc 41)) ≡ codes ":-42\r\n"
  least_integer : text_of (Int (negsuc 9223372036854775807)) ≡ codes ":-9223372036854775808\r\n"
  bulk_reply : text_of (Bulk (codes "v")) ≡ codes "$1\r\nv\r\n"
  bulk_of_line_end : text_of (Bulk (codes "a\r\n")) ≡ codes "$3\r\na\r\n\r\n"
  empty_bulk : text_of (Bulk []) ≡ codes "$0\r\n\r\n"
  null_bulk : text_of NullBulk ≡ codes "$-1\r\n"
  empty_array : text_of (Array []) ≡ codes "*0\r\n"
  array : text_of (Array (Simple (codes "OK") ∷ NullBulk ∷ Int (pos 1) ∷ [])) ≡ codes "*3\r\n+OK\r\n$-1\r\n:1\r\n"
  nested_array : text_of (Array (Bulk (codes "v") ∷ Array (Int (pos 1) ∷ []) ∷ NullArray ∷ [])) ≡ codes "*3\r\n$1\r\nv\r\n*1\r\n:1\r\n*-1\r\n"
  null_array : text_of NullArray ≡ codes "*-1\r\n"
  -- the bytes of changes
  put_string_text : change_text (Put (Str (codes "a")) (codes "1")) ≡ 1 ∷ 0 ∷ 1 ∷ 97 ∷ 0 ∷ 0 ∷ 0 ∷ 1 ∷ 49 ∷ []
  put_field_text : change_text (Put (Field (codes "h") (codes "f")) (codes "1")) ≡ 2 ∷ 0 ∷ 1 ∷ 104 ∷ 0 ∷ 1 ∷ 102 ∷ 0 ∷ 0 ∷ 0 ∷ 1 ∷ 49 ∷ []
  drop_string_text : change_text (Drop (Str (codes "k1"))) ≡ 3 ∷ 0 ∷ 2 ∷ 107 ∷ 49 ∷ []
  drop_field_text : change_text (Drop (Field (codes "h") (codes "f"))) ≡ 4 ∷ 0 ∷ 1 ∷ 104 ∷ 0 ∷ 1 ∷ 102 ∷ []
  drop_key_text : change_text (DropKey (codes "k1")) ≡ 5 ∷ 0 ∷ 2 ∷ 107 ∷ 49 ∷ []
  clear_text : change_text Clear ≡ 6 ∷ []
  -- the body of a delta that drops k1 and k3 and puts k2
  delta_text : changes_text (Drop (Str (codes "k1")) ∷ Drop (Str (codes "k3")) ∷ Put (Str (codes "k2")) (codes "x") ∷ [])
      ≡ 3 ∷ 0 ∷ 2 ∷ 107 ∷ 49 ∷ 3 ∷ 0 ∷ 2 ∷ 107 ∷ 51 ∷ 1 ∷ 0 ∷ 2 ∷ 107 ∷ 50 ∷ 0 ∷ 0 ∷ 0 ∷ 1 ∷ 120 ∷ []
  delta_size : changes_size (Drop (Str (codes "k1")) ∷ Drop (Str (codes "k3")) ∷ Put (Str (codes "k2")) (codes "x") ∷ []) ≡ 20
  -- keyspaces
  -- the records are in the order of their keys, and then of their fields
  in_order : play_all [] (Put (Str (codes "k")) (codes "v") ∷ Put (Field (codes "h") (codes "g")) (codes "2") ∷ Put (Field (codes "h") (codes "f")) (codes "1") ∷ [])
      ≡ (Field (codes "h") (codes "f"), codes "1") ∷ (Field (codes "h") (codes "g"), codes "2") ∷ (Str (codes "k"), codes "v") ∷ []
  string_over_hash : play_all [] (Put (Field (codes "k") (codes "f")) (codes "1") ∷ Put (Field (codes "k") (codes "g")) (codes "2") ∷ Put (Str (codes "k")) (codes "v") ∷ [])
      ≡ (Str (codes "k"), codes "v") ∷ []
  field_over_string : play_all [] (Put (Str (codes "k")) (codes "v") ∷ Put (Field (codes "k") []) (codes "1") ∷ []) ≡ (Field (codes "k") [], codes "1") ∷ []
  value_over_value : play_all [] (Put (Str (codes "k")) (codes "v") ∷ Put (Str (codes "k")) (codes "w") ∷ []) ≡ (Str (codes "k"), codes "w") ∷ []
  last_field_dropped : play_all [] (Put (Field (codes "h") (codes "f")) (codes "1") ∷ Drop (Field (codes "h") (codes "f")) ∷ []) ≡ []
  -- the drop of a string is not the drop of a hash of its key
  other_kind_dropped : play_all [] (Put (Field (codes "h") (codes "f")) (codes "1") ∷ Drop (Str (codes "h")) ∷ []) ≡ (Field (codes "h") (codes "f"), codes "1") ∷ []
  key_dropped : play_all [] (Put (Field (codes "h") (codes "f")) (codes "1") ∷ Put (Field (codes "h") (codes "g")) (codes "2") ∷ Put (Str (codes "hh")) (codes "v") ∷ DropKey (codes "h") ∷ [])
      ≡ (Str (codes "hh"), codes "v") ∷ []
  cleared : play_all [] (Put (Str (codes "k")) (codes "v") ∷ Clear ∷ []) ≡ []

worked_cases : WorkedCases
unfolding items_at digits hidden-the_row-Reply-0 hidden
worked_cases = assumption
