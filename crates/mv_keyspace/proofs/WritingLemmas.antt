-- The slot of a key, once another is written in its place.
use Rattle.std.proofs.Common.{◌≡◌, ℕ, ◌+◌, Bool, true, ◌&&◌, ◌||◌, cond, length, ◌≤◌, List, [], ◌∷◌, ◌++◌, Some, None, IsSome, IsTrue, refl, sym, ap, subst, ◌∙◌, arith}
use Rattle.std.specs.List.Sorted.{IsStrictlySortedBy}
use Rattle.std.specs.Map.{keys_of, set_value}
use Rattle.std.specs.BTreeMap.{is_at}
use Rattle.std.specs.Ordering.{is_eq}
use Rattle.std.specs.Cmp.{tied_itself}
use Rattle.std.specs.Cmp.Lexicographic.{nat_list_cmp_total}
use Rattle.mv_keyspace.proofs.PlayingLemmas.{ended-few}
use Rattle.std.specs.declared.cmp.Ordering.{Ordering}
use Rattle.std.specs.declared.cmp.Ordering.TheVariants.{Equal}
use Rattle.kv_types.specs.declared.record_id.RecordId.{RecordId}
use Rattle.kv_types.specs.declared.record_id.RecordId.TheVariants.{Str, Field}
use Rattle.kv_types.specs.Keyspace.{key_of, bytes_cmp}
use Rattle.kv_types.proofs.OrderLemmas.{bytes_cmp_equal}
use Rattle.model.specs.declared.group.PlacedChange.{PlacedChange}
use Rattle.model.specs.Group.{change_of, put_of}
use Rattle.model.specs.declared.group.PlacedChange.TheVariants as placed
use Rattle.mv_keyspace.specs.declared.row.Row.{Row}
use Rattle.mv_keyspace.specs.declared.slot.Slot.{Slot}
use Rattle.mv_keyspace.specs.Keys.{changed_key}
use Rattle.mv_keyspace.specs.Row.{ended_rows, table_of}
use Rattle.mv_keyspace.specs.Table.{Table, place}
use Rattle.mv_keyspace.specs.Slot.{rows_of, awaited_in, is_field, is_list, makes_field}
use Rattle.mv_keyspace.specs.Slots.{Slots, rows_in, slot_at, rows_of_slot, rows_at, awaited_at, awaits_of, is_field_of, is_list_at, makes_field_of, makes_fields, AreOfKey, AreSlots}
use Rattle.mv_keyspace.proofs.SlotLemmas.{Around, around, own-at, slots-written, table_of-append}
use Rattle.mv_keyspace.proofs.PlacingLemmas.{place-between, ended-within, own-placed, same_Some}

table_of-parts : (a b c : List Row) → table_of (a ++ (b ++ c)) ≡ table_of a ++ (table_of b ++ table_of c)
table_of-parts a b c = table_of-append a (b ++ c) ∙ ap (λ t. table_of a ++ t) (table_of-append b c)

pub some_found : (key : List ℕ) (es : Slots) (slot : Slot) → slot_at key es ≡ Some slot → IsSome (slot_at key es)
some_found key es slot found = subst IsSome (sym found) refl

-- the slot is that of the key
module _ (key : List ℕ) (es : Slots) (slot : Slot) (slots : AreSlots es) (found : slot_at key es ≡ Some slot) where
  abbrev pub own : Around key es
  own = around key es slots

  pub rows-found : rows_in es ≡ own.before ++ (rows_of key slot ++ own.after)
  rows-found = own.rows ∙ ap (λ s. own.before ++ (rows_of_slot key s ++ own.after)) found

  pub of-key : AreOfKey key (table_of (rows_of key slot))
  of-key = subst (λ s. AreOfKey key (table_of (rows_of_slot key s))) found (own-at key es slots.own)

  pub ended-found : (c : PlacedChange) → changed_key (change_of c) ≡ Some key → ended_rows (change_of c) (table_of (rows_in es)) ≡ ended_rows (change_of c) (table_of (rows_of key slot))
  ended-found c is =
      ap (λ rows. ended_rows (change_of c) (table_of rows)) rows-found
      ∙ ap (ended_rows (change_of c)) (table_of-parts own.before (rows_of key slot) own.after)
      ∙ ended-within key (change_of c) (table_of own.before) (table_of (rows_of key slot)) (table_of own.after) is own.lower own.upper

  -- another slot was written
  module _ (other : Slot) (after : Slots) (is : after ≡ set_value (is_at (bytes_cmp key)) es other) (sorted : IsStrictlySortedBy bytes_cmp (keys_of after)) where
    pub rows-written : rows_in after ≡ own.before ++ (rows_of key other ++ own.after)
    rows-written = ap rows_in is ∙ own.written other (some_found key es slot found)

    pub same-rows : rows_of key other ≡ rows_of key slot → rows_in after ≡ rows_in es
    same-rows same = rows-written ∙ ap (λ items. own.before ++ (items ++ own.after)) same ∙ sym rows-found

    pub same-slots : rows_of key other ≡ rows_of key slot → AreSlots after
    same-slots same = slots-written key other es after is sorted (subst (λ items. AreOfKey key (table_of items)) (sym same) of-key) slots

    pub placed-slots : (position : ℕ) (c : PlacedChange) → changed_key (change_of c) ≡ Some key → table_of (rows_of key other) ≡ place position (table_of (rows_of key slot)) c → AreSlots after
    placed-slots position c of placed =
        slots-written key other es after is sorted (subst (AreOfKey key) (sym placed) (own-placed position key c (table_of (rows_of key slot)) of of-key)) slots

    pub placed-rows : (position : ℕ) (c : PlacedChange) → changed_key (change_of c) ≡ Some key → table_of (rows_of key other) ≡ place position (table_of (rows_of key slot)) c → table_of (rows_in after) ≡ place position (table_of (rows_in es)) c
    placed-rows position c of placed =
        ap table_of rows-written ∙ table_of-parts own.before (rows_of key other) own.after
        ∙ ap (λ t. table_of own.before ++ (t ++ table_of own.after)) placed
        ∙ sym (place-between position key c (table_of own.before) (table_of (rows_of key slot)) (table_of own.after) of own.lower own.upper)
        ∙ ap (λ t. place position t c) (sym (ap table_of rows-found ∙ table_of-parts own.before (rows_of key slot) own.after))

-- ---- a key that has no slot

module _ (key : List ℕ) (es : Slots) (slots : AreSlots es) (missing : slot_at key es ≡ None) where
  abbrev gap : Around key es
  gap = around key es slots

  rows-missing : rows_in es ≡ gap.before ++ ([] ++ gap.after)
  rows-missing = gap.rows ∙ ap (λ s. gap.before ++ (rows_of_slot key s ++ gap.after)) missing

  pub ended-missing : (c : PlacedChange) → changed_key (change_of c) ≡ Some key → ended_rows (change_of c) (table_of (rows_in es)) ≡ []
  ended-missing c is =
      ap (λ rows. ended_rows (change_of c) (table_of rows)) rows-missing
      ∙ ap (ended_rows (change_of c)) (table_of-parts gap.before [] gap.after)
      ∙ ended-within key (change_of c) (table_of gap.before) [] (table_of gap.after) is gap.lower gap.upper

  pub placed-missing : (position : ℕ) (c : PlacedChange) → changed_key (change_of c) ≡ Some key → place position [] c ≡ [] → table_of (rows_in es) ≡ place position (table_of (rows_in es)) c
  placed-missing position c of none =
      let whole = ap table_of rows-missing ∙ table_of-parts gap.before [] gap.after in
      whole ∙ ap (λ t. table_of gap.before ++ (t ++ table_of gap.after)) (sym none)
      ∙ sym (place-between position key c (table_of gap.before) [] (table_of gap.after) of gap.lower gap.upper)
      ∙ ap (λ t. place position t c) (sym whole)

-- ---- how many rows are awaited

pub is_eq_Equal : (o : Ordering) → is_eq o ≡ true → o ≡ Equal
is_eq_Equal o e = grind arith

module _ (key q : List ℕ) (es after : Slots) (other : Slot) (updates : slot_at q after ≡ cond (is_at (bytes_cmp key) q) (Some other) (slot_at q es)) where
  tied : is_at (bytes_cmp key) q ≡ true → slot_at key es ≡ slot_at q es
  tied e = ap (λ k. slot_at k es) (bytes_cmp_equal key q (is_eq_Equal (bytes_cmp key q) e))

  pub awaited-more : (slot : Slot) → slot_at key es ≡ Some slot → awaited_in other ≡ awaited_in slot + 1 → awaited_at q after ≡ awaited_at q es + cond (is_at (bytes_cmp key) q) 1 0
  awaited-more slot found more = grind (arith, tied)

  pub awaited-less : (slot : Slot) (n : ℕ) → slot_at key es ≡ Some slot → awaited_in other + n ≡ awaited_in slot → awaited_at q after + cond (is_at (bytes_cmp key) q) n 0 ≡ awaited_at q es
  awaited-less slot n found less = grind (arith, tied)

  pub lists-same : (slot : Slot) → slot_at key es ≡ Some slot → is_list other ≡ is_list slot → is_list_at q after ≡ is_list_at q es
  lists-same slot found same = grind (arith, tied)

  pub lists-more : (slot : Slot) (field : Bool) → slot_at key es ≡ Some slot → is_list other ≡ (is_list slot || field) → is_list_at q after ≡ (is_list_at q es || (field && is_at (bytes_cmp key) q))
  lists-more slot field found more = grind (arith, tied)

  pub lists-made : (field : Bool) → slot_at key es ≡ None → is_list other ≡ field → is_list_at q after ≡ (is_list_at q es || (field && is_at (bytes_cmp key) q))
  lists-made field missing made = grind (arith, tied)

  pub awaited-made : (n : ℕ) → slot_at key es ≡ None → awaited_in other ≡ n → awaited_at q after ≡ awaited_at q es + cond (is_at (bytes_cmp key) q) n 0
  awaited-made n missing one = grind (arith, tied)

-- the record is a field of the key that it names
pub field_of_key : (q : List ℕ) (id : RecordId) → (is_field id && is_at (bytes_cmp (key_of id)) q) ≡ is_field_of q id
field_of_key q (Str key) = refl
field_of_key q (Field key field) = refl

pub field-own : (id : RecordId) → is_field id ≡ is_field_of (key_of id) id
field-own (Str key) = refl
field-own (Field key field) = sym (ap is_eq (tied_itself nat_list_cmp_total key))

-- ---- a change of the key

-- it ends no more rows than the key has
pub ended-few_at : (key : List ℕ) (es : Slots) (c : PlacedChange) → AreSlots es → changed_key (change_of c) ≡ Some key → length (ended_rows (change_of c) (table_of (rows_in es))) ≤ length (rows_at key es)
ended-few_at key es c slots is =
    let own = around key es slots in
    let parts = ap table_of own.rows ∙ table_of-parts own.before (rows_at key es) own.after in
    let within = ended-within key (change_of c) (table_of own.before) (table_of (rows_at key es)) (table_of own.after) is own.lower own.upper in
    omega (arith, ap (λ (t : Table). length (ended_rows (change_of c) t)) parts, ap (λ (t : Table). length t) within, ended-few (change_of c) (rows_at key es))

-- it makes rows of the key only
pub awaits-at : (key q : List ℕ) (c : PlacedChange) → changed_key (change_of c) ≡ Some key → cond (is_at (bytes_cmp key) q) (length (put_of c)) 0 ≡ awaits_of q c
awaits-at key q (placed.Put put) is = ap (λ k. cond (is_at (bytes_cmp k) q) 1 0) (sym (same_Some (key_of put.id) key is))
awaits-at key q (placed.Drop id) is = grind arith
awaits-at key q (placed.DropKey other) is = grind arith
awaits-at key q placed.Clear is = cc

pub awaits-own : (key : List ℕ) (c : PlacedChange) → changed_key (change_of c) ≡ Some key → length (put_of c) ≡ awaits_of key c
awaits-own key c is = ap (λ o. cond (is_eq o) (length (put_of c)) 0) (sym (tied_itself nat_list_cmp_total key)) ∙ awaits-at key key c is

-- and fields of the key only
pub fields-own : (key : List ℕ) (c : PlacedChange) → changed_key (change_of c) ≡ Some key → makes_field c ≡ makes_field_of key c
fields-own key (placed.Put put) is = field-own put.id ∙ ap (λ k. is_field_of k put.id) (same_Some (key_of put.id) key is)
fields-own key (placed.Drop id) is = refl
fields-own key (placed.DropKey other) is = refl
fields-own key placed.Clear is = refl

pub makes-first : (q : List ℕ) (c : PlacedChange) (changes : List PlacedChange) → IsTrue (makes_field_of q c) → IsTrue (makes_fields q (c ∷ changes))
makes-first q c changes makes = grind (arith, makes)

pub makes-later : (q : List ℕ) (c : PlacedChange) (changes : List PlacedChange) → IsTrue (makes_fields q changes) → IsTrue (makes_fields q (c ∷ changes))
makes-later q c changes makes = grind (arith, makes)
