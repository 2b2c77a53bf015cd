-- How many keys a keyspace has, with those of one key and without.
use Rattle.std.proofs.Common.{◌≡◌, ℕ, ◌+◌, ◌≤◌, Bool, true, false, cond, not, List, [], ◌∷◌, length, Option, Some, None, refl, sym, ap, ◌∙◌, arith}
use Rattle.std.specs.FinMap.Entries.{where_key}
use Rattle.kv_types.specs.declared.record_id.RecordId.{RecordId}
use Rattle.kv_types.specs.declared.record_id.RecordId.TheVariants.{Str, Field}
use Rattle.kv_types.specs.declared.change.Change.{Change}
use Rattle.kv_types.specs.declared.change.Change.TheVariants as change
use Rattle.kv_types.specs.Keyspace.{Keyspace, key_of, record_cmp, with_record, play}
use Rattle.kv_types.proofs.OrderLemmas.{record_cmp_equal, same_record, same_key, key_itself}
use Rattle.kv_types.proofs.LookUpLemmas.{is_same}
use Rattle.cmd_core.specs.Contents.{same_bytes, has_key, keys_of}
use Rattle.cmd_core.proofs.RecordsLemmas.{has_none, has_more, keys_none, keys_more}
use Rattle.model.specs.declared.group.PlacedChange.{PlacedChange}
use Rattle.model.specs.Group.{change_of}
use Rattle.mv_keyspace.specs.declared.row.Row.{Row}
use Rattle.mv_keyspace.specs.Keys.{changed_key, is_of_other, keys_beside}
use Rattle.mv_keyspace.specs.Table.{records, place}
use Rattle.mv_keyspace.specs.Row.{records_of, records_of_table, table_of}
use Rattle.mv_keyspace.proofs.ListLemmas.{length_map}
use Rattle.mv_keyspace.proofs.TableLemmas.{records-place}

keys-few : (s : Keyspace) → length (keys_of s) ≤ length s
keys-few [] = grind (arith, keys_none)
keys-few (e ∷ s) = grind (arith, keys_more e s, keys-few s)

pub keys_few_rows : (rows : List Row) → length (keys_of (records_of rows)) ≤ length rows
keys_few_rows rows = omega (arith, keys-few (records_of rows), length_map {Y = RecordId × List ℕ} (λ (row : Row). (row.id, row.value)) rows)

-- ---- without the records of one key

abbrev others : List ℕ → Keyspace → Keyspace
others key = where_key record_cmp (is_of_other (Some key))

module _ (key : List ℕ) where
  has-others : (other : List ℕ) → same_bytes other key ≡ false → (s : Keyspace) → has_key (others key s) other ≡ has_key s other
  has-others other apart [] = refl
  has-others other apart (e ∷ s) = grind (arith, has_more e s other, has_more e (others key s) other, same_key (key_of e.0) key, same_key (key_of e.0) other, key_itself key, has-others other apart s)

  -- a key that is there counts one
  pub keys-others : (s : Keyspace) → length (keys_of s) ≡ cond (has_key s key) 1 0 + length (keys_of (others key s))
  keys-others [] = grind (arith, keys_none, has_none key)
  keys-others (e ∷ s) =
      grind (arith, keys_more e s, keys_more e (others key s), has_more e s key, same_key (key_of e.0) key, λ (apart : same_bytes (key_of e.0) key ≡ false). has-others (key_of e.0) apart s, keys-others s)

-- ---- a change leaves the records of other keys

none_other : (s : Keyspace) → where_key record_cmp (is_of_other None) s ≡ []
none_other [] = refl
none_other (e ∷ s) = none_other s

module _ (key : List ℕ) where
  -- taking out some records of the key
  others-where : (p : RecordId → Bool) → ((id : RecordId) → p id ≡ false → same_bytes (key_of id) key ≡ true) → (s : Keyspace) → others key (where_key record_cmp p s) ≡ others key s
  others-where p own [] = refl
  others-where p own (e ∷ s) = grind (arith, own e.0, others-where p own s)

  -- putting in a record of the key
  others-put : (id : RecordId) (value : List ℕ) → same_bytes (key_of id) key ≡ true → (s : Keyspace) → others key (with_record id value s) ≡ others key s
  others-put id value own [] = grind arith
  others-put id value own (e ∷ s) = grind (arith, record_cmp_equal id e.0, others-put id value own s)

of_key : (key : List ℕ) (id : RecordId) → not (same_bytes (key_of id) key) ≡ false → same_bytes (key_of id) key ≡ true
of_key key id e = grind arith

of_record : (other id : RecordId) → not (is_same id other) ≡ false → same_bytes (key_of id) (key_of other) ≡ true
of_record other id e = grind (arith, same_record id other, key_itself (key_of other))

beside-play : (s : Keyspace) (c : Change) → where_key record_cmp (is_of_other (changed_key c)) (play s c) ≡ where_key record_cmp (is_of_other (changed_key c)) s
beside-play s (change.Put (Str key) value) =
    others-put key (Str key) value (key_itself key) (where_key record_cmp (λ id. not (same_bytes (key_of id) key)) s)
    ∙ others-where key (λ id. not (same_bytes (key_of id) key)) (of_key key) s
beside-play s (change.Put (Field key field) value) =
    others-put key (Field key field) value (key_itself key) (where_key record_cmp (λ id. not (is_same id (Str key))) s)
    ∙ others-where key (λ id. not (is_same id (Str key))) (of_record (Str key)) s
beside-play s (change.Drop id) = others-where (key_of id) (λ other. not (is_same other id)) (of_record id) s
beside-play s (change.DropKey key) = others-where key (λ id. not (same_bytes (key_of id) key)) (of_key key) s
beside-play s change.Clear = sym (none_other s)

pub keys_beside-play : (s : Keyspace) (c : Change) → keys_beside c (play s c) ≡ keys_beside c s
keys_beside-play s c = ap keys_of (beside-play s c)

-- the same by rows
pub keys_beside-placed : (position : ℕ) (rows after : List Row) (c : PlacedChange) → table_of after ≡ place position (table_of rows) c → keys_beside (change_of c) (records_of after) ≡ keys_beside (change_of c) (records_of rows)
keys_beside-placed position rows after c is =
    ap (keys_beside (change_of c)) (records_of_table after ∙ ap records is ∙ records-place position (table_of rows) c ∙ ap (λ s. play s (change_of c)) (sym (records_of_table rows)))
    ∙ keys_beside-play (records_of rows) (change_of c)

-- ---- the count, where a change touches one key or all

-- how many keys a change may touch: the one that it names, if it has records, or all
abbrev pub keys_at : Option (List ℕ) → Keyspace → ℕ
keys_at (Some key) s = cond (has_key s key) 1 0
keys_at None s = length (keys_of s)

pub keys_counted : (c : Change) (s : Keyspace) → length (keys_beside c s) + keys_at (changed_key c) s ≡ length (keys_of s)
keys_counted c s = by (changed_key c)
  where
    by : (key : Option (List ℕ)) → length (keys_of (where_key record_cmp (is_of_other key) s)) + keys_at key s ≡ length (keys_of s)
    by (Some key) = omega (arith, keys-others key s)
    by None = omega (arith, ap (λ keys. length keys) (ap keys_of (none_other s) ∙ keys_none))
