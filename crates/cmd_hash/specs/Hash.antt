-- What all commands on hashes go through: a key that is absent counts as a hash without fields, and a string is an error (the hash pages of
-- the Redis documentation).
use Rattle.std.specs.Prelude.{ℕ, Bool, is_some, List, Option}
use Rattle.kv_types.specs.declared.record_id.RecordId.TheVariants.{Field}
use Rattle.kv_types.specs.Keyspace.{Keyspace, value_at}
use Rattle.cmd_core.specs.Contents.{check_hash}
use Rattle.cmd_core.specs.Outcome.{Outcome, on_ok}

-- goes on where the key holds no string
abbrev pub on_hash : Keyspace → List ℕ → Outcome → Outcome
on_hash s key rest = on_ok (check_hash s key) (λ checked. rest)

abbrev pub value_of : Keyspace → (key field : List ℕ) → Option (List ℕ)
value_of s key field = value_at s (Field key field)

abbrev pub has_field : Keyspace → (key field : List ℕ) → Bool
has_field s key field = is_some (value_of s key field)
