-- What is read of a key among all rows is what is read of it among its own.
use Rattle.std.proofs.Common.{◌≡◌, ℕ, ◌+◌, ◌≤◌, Bool, false, cond, ◌||◌, List, [], ◌∷◌, ◌++◌, length, Option, Some, None, refl, sym, ap, ◌∙◌, arith}
use Rattle.std.proofs.lemmas.Bool.{false_from_ne_true}
use Rattle.std.specs.Cmp.{tied_itself}
use Rattle.std.specs.Cmp.Lexicographic.{nat_list_cmp_total}
use Rattle.std.specs.declared.cmp.Ordering.{Ordering}
use Rattle.std.specs.declared.cmp.Ordering.TheVariants.{Less, Equal, Greater}
use Rattle.kv_types.specs.declared.record_id.RecordId.{RecordId}
use Rattle.kv_types.specs.declared.record_id.RecordId.TheVariants.{Str, Field}
use Rattle.kv_types.specs.Keyspace.{Keyspace, key_of, bytes_cmp, value_at}
use Rattle.kv_types.proofs.OrderLemmas.{key_itself, same_record}
use Rattle.kv_types.proofs.LookUpLemmas.{is_same}
use Rattle.cmd_core.specs.Contents.{fields_of, has_key, keys_of, same_bytes}
use Rattle.cmd_core.specs.Record.{field_at}
use Rattle.cmd_core.proofs.RecordsLemmas.{fields_more, fields_none, has_more, has_none, keys_more, keys_none, with_field}
use Rattle.mv_keyspace.specs.declared.row.Row.{Row}
use Rattle.mv_keyspace.specs.declared.slot.Slot.{Slot}
use Rattle.mv_keyspace.specs.Row.{records_of, table_of}
use Rattle.mv_keyspace.specs.Slot.{rows_of}
use Rattle.mv_keyspace.specs.Slots.{Slots, rows_at, rows_in, rows_of_slot, slot_at, AreOfKey, AreSlots}
use Rattle.mv_keyspace.proofs.SlotLemmas.{AllStand, around, slots-tail}
use Rattle.mv_keyspace.proofs.PlacingLemmas.{apart-keys, not_tied_greater, not_tied_less}

abbrev record_of : Row → RecordId × List ℕ
record_of row = (row.id, row.value)

-- a reading that passes over the records of other keys
module _ (A : Type 0) (key : List ℕ) (read : Keyspace → A) (with : RecordId × List ℕ → A → A) (more : (e : RecordId × List ℕ) (s : Keyspace) → read (e ∷ s) ≡ with e (read s))
    (passes : (order : Ordering) → (order ≡ Equal → ⊥) → (e : RecordId × List ℕ) (x : A) → bytes_cmp key (key_of e.0) ≡ order → with e x ≡ x) where
  skip : (order : Ordering) → (order ≡ Equal → ⊥) → (rows others : List Row) → AllStand order key (table_of rows) → read (records_of (rows ++ others)) ≡ read (records_of others)
  skip order apart [] others all = refl
  skip order apart (row ∷ rows) others all =
      more (record_of row) (records_of (rows ++ others)) ∙ passes order apart (record_of row) (read (records_of (rows ++ others))) all.0 ∙ skip order apart rows others all.1

  none : (rows : List Row) → AllStand Less key (table_of rows) → read (records_of rows) ≡ read []
  none [] all = refl
  none (row ∷ rows) all = more (record_of row) (records_of rows) ∙ passes Less not_tied_less (record_of row) (read (records_of rows)) all.0 ∙ none rows all.1

  stop : (rows others : List Row) → AllStand Less key (table_of others) → read (records_of (rows ++ others)) ≡ read (records_of rows)
  stop [] others all = none others all
  stop (row ∷ rows) others all = more (record_of row) (records_of (rows ++ others)) ∙ ap (with (record_of row)) (stop rows others all) ∙ sym (more (record_of row) (records_of rows))

  read-at : (es : Slots) → AreSlots es → read (records_of (rows_in es)) ≡ read (records_of (rows_at key es))
  read-at es slots =
      let own = around key es slots in
      ap (λ rows. read (records_of rows)) own.rows ∙ skip Greater not_tied_greater own.before (rows_at key es ++ own.after) own.lower ∙ stop (rows_at key es) own.after own.upper

pub other_record : (order : Ordering) → (order ≡ Equal → ⊥) → (id other : RecordId) → bytes_cmp (key_of id) (key_of other) ≡ order → is_same id other ≡ false
other_record order apart id other at =
    false_from_ne_true (is_same id other) (λ e. apart (sym at ∙ ap (λ x. bytes_cmp (key_of id) (key_of x)) (sym (same_record id other e)) ∙ tied_itself nat_list_cmp_total (key_of id)))

pub value_at_own : (id : RecordId) (es : Slots) → AreSlots es → value_at (records_of (rows_in es)) id ≡ value_at (records_of (rows_at (key_of id) es)) id
value_at_own id es slots =
    read-at (Option (List ℕ)) (key_of id) (λ s. value_at s id) (λ e x. cond (is_same id e.0) (Some e.1) x) (λ e s. refl)
    (λ order apart e x at. ap (λ b. cond b (Some e.1) x) (other_record order apart id e.0 at)) es slots

pub has_key_own : (key : List ℕ) (es : Slots) → AreSlots es → has_key (records_of (rows_in es)) key ≡ has_key (records_of (rows_at key es)) key
has_key_own key es slots =
    read-at Bool key (λ s. has_key s key) (λ e x. same_bytes (key_of e.0) key || x) (λ e s. has_more e s key)
    (λ order apart e x at. ap (λ b. b || x) (apart-keys order key (key_of e.0) at apart)) es slots

pub fields_of_own : (key : List ℕ) (es : Slots) → AreSlots es → fields_of (records_of (rows_in es)) key ≡ fields_of (records_of (rows_at key es)) key
fields_of_own key es slots =
    read-at (List (List ℕ × List ℕ)) key (λ s. fields_of s key) (λ e x. with_field (field_at e.0 key) e.1 x) (λ e s. fields_more e s key)
    (λ order apart e x at. ap (λ f. with_field f e.1 x) (no_field order apart e.0 at)) es slots
  where
    no_field : (order : Ordering) → (order ≡ Equal → ⊥) → (id : RecordId) → bytes_cmp key (key_of id) ≡ order → field_at id key ≡ None
    no_field order apart (Str own) at = refl
    no_field order apart (Field own field) at = ap (λ b. cond b (Some field) None) (apart-keys order key own at apart)

-- ---- what is read in the slot of the key

module _ (key : List ℕ) (es : Slots) (slots : AreSlots es) where
  pub value-found : (id : RecordId) (slot : Slot) → key_of id ≡ key → slot_at key es ≡ Some slot → value_at (records_of (rows_of key slot)) id ≡ value_at (records_of (rows_in es)) id
  value-found id slot own found = sym (value_at_own id es slots ∙ ap (λ k. value_at (records_of (rows_at k es)) id) own ∙ ap (λ s. value_at (records_of (rows_of_slot key s)) id) found)

  pub value-missing : (id : RecordId) → key_of id ≡ key → slot_at key es ≡ None → None ≡ value_at (records_of (rows_in es)) id
  value-missing id own missing = sym (value_at_own id es slots ∙ ap (λ k. value_at (records_of (rows_at k es)) id) own ∙ ap (λ s. value_at (records_of (rows_of_slot key s)) id) missing)

  pub fields-found : (slot : Slot) → slot_at key es ≡ Some slot → fields_of (records_of (rows_of key slot)) key ≡ fields_of (records_of (rows_in es)) key
  fields-found slot found = sym (fields_of_own key es slots ∙ ap (λ s. fields_of (records_of (rows_of_slot key s)) key) found)

  pub fields-missing : slot_at key es ≡ None → [] ≡ fields_of (records_of (rows_in es)) key
  fields-missing missing = sym (fields_of_own key es slots ∙ ap (λ s. fields_of (records_of (rows_of_slot key s)) key) missing ∙ fields_none key)

-- the key has records where its slot has some of it
pub has-found : (key : List ℕ) (es : Slots) (slot : Slot) → AreSlots es → slot_at key es ≡ Some slot → has_key (records_of (rows_of key slot)) key ≡ has_key (records_of (rows_in es)) key
has-found key es slot slots found = ap (λ s. has_key (records_of (rows_of_slot key s)) key) (sym found) ∙ sym (has_key_own key es slots)

pub has-missing : (key : List ℕ) (es : Slots) → AreSlots es → slot_at key es ≡ None → false ≡ has_key (records_of (rows_in es)) key
has-missing key es slots missing = sym (has_key_own key es slots ∙ ap (λ s. has_key (records_of (rows_of_slot key s)) key) missing ∙ has_none key)

-- ---- how many keys there are

key-once : (key : List ℕ) (rows others : List Row) → AreOfKey key (table_of rows) → length (keys_of (records_of (rows ++ others))) ≤ 1 + length (keys_of (records_of others))
key-once key [] others own = omega arith
key-once key (row ∷ []) others own = grind (arith, keys_more (record_of row) (records_of others))
key-once key (row ∷ next ∷ rows) others own =
    grind (arith, own.0, own.1.0, keys_more (record_of row) (records_of (next ∷ rows ++ others)), has_more (record_of next) (records_of (rows ++ others)) key, key_itself key, key-once key (next ∷ rows) others own.1)

pub keys_few_slots : (es : Slots) → AreSlots es → length (keys_of (records_of (rows_in es))) ≤ length es
keys_few_slots [] slots = omega (arith, ap (λ keys. length keys) keys_none)
keys_few_slots (e ∷ es) slots = omega (arith, key-once e.0 (rows_of e.0 e.1) (rows_in es) slots.own.0, keys_few_slots es (slots-tail e es slots))
