-- What a keyspace holds at a key: nothing, a string, or a hash of fields (the key and hash pages of the Redis documentation).
use Rattle.std.specs.Prelude.{ℕ, Bool, true, false, if◌then◌else◌, List, [], ◌∷◌, Option, Some, None, Result, Ok, Err, is_some, nat_eq}
use Rattle.std.specs.Option.{option_copied}
use Rattle.std.specs.Borrow.{Bor}
use Rattle.std.specs.List.{list_any}
use Rattle.std.specs.Cmp.Lexicographic.{pointwise}
use Rattle.kv_types.specs.declared.record_id.RecordId.TheVariants.{Str, Field}
use Rattle.kv_types.specs.Keyspace.{Keyspace, key_of, value_at}
use Rattle.cmd_core.specs.declared.error.CommandError.{CommandError}
use Rattle.cmd_core.specs.declared.error.CommandError.TheVariants.{WrongType}

abbrev pub same_bytes : List ℕ → List ℕ → Bool
same_bytes = pointwise nat_eq

-- the key holds a string or a hash
unfoldable pub has_key : Keyspace → List ℕ → Bool
has_key s key = list_any (λ kept. same_bytes (key_of kept.0) key) s

-- what a key holds
pub data Kind : Type 0 where
  Absent : Kind
  String : Kind
  Hash : Kind

abbrev pub kind_of : (is_string is_there : Bool) → Kind
kind_of true is_there = String
kind_of false true = Hash
kind_of false false = Absent

abbrev pub kind_at : Keyspace → List ℕ → Kind
kind_at s key = kind_of (is_some (value_at s (Str key))) (has_key s key)

-- every key once
unfoldable pub keys_of : Keyspace → List (List ℕ)
keys_of [] = []
keys_of ((id, value) ∷ s) = if has_key s (key_of id) then keys_of s else key_of id ∷ keys_of s

-- the fields of a key with their values, in ascending bytes of the field
unfoldable pub fields_of : Keyspace → List ℕ → List (List ℕ × List ℕ)
fields_of [] key = []
fields_of ((Str own, value) ∷ s) key = fields_of s key
fields_of ((Field own field, value) ∷ s) key = if same_bytes own key then (field, value) ∷ fields_of s key else fields_of s key

-- ---- what a command is given that asks for one kind

abbrev pub string_unless : Option (List ℕ) → Bool → Result (Option (List ℕ)) CommandError
string_unless (Some value) is_there = Ok (Some value)
string_unless None true = Err WrongType
string_unless None false = Ok None

-- the string at a key, none where the key is absent, and an error where it is a hash
abbrev pub string_at : Keyspace → List ℕ → Result (Option (List ℕ)) CommandError
string_at s key = string_unless (value_at s (Str key)) (has_key s key)

abbrev pub hash_unless : Option (List ℕ) → Result (Unit {0}) CommandError
hash_unless (Some value) = Err WrongType
hash_unless None = Ok tt

-- an error where the key is a string
abbrev pub check_hash : Keyspace → List ℕ → Result (Unit {0}) CommandError
check_hash s key = hash_unless (value_at s (Str key))

-- the string that was read, as the code has it
abbrev pub string_now : Result (Option (Bor (List ℕ))) CommandError → Result (Option (List ℕ)) CommandError
string_now (Ok value) = Ok (option_copied value)
string_now (Err error) = Err error
