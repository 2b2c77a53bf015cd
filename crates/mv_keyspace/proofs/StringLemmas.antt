-- The rows of a slot without a list: that of a string, or none.
use Rattle.std.proofs.Common.{◌≡◌, ℕ, true, false, cond, ◌||◌, List, [], ◌∷◌, Some, None, IsTrue, refl, sym, ap, ◌∙◌, arith}
use Rattle.std.specs.Cmp.{tied_itself}
use Rattle.std.specs.Cmp.Lexicographic.{nat_list_cmp_total}
use Rattle.std.specs.FinMap.Entries.{is_sorted}
use Rattle.kv_types.specs.declared.record_id.RecordId.{RecordId}
use Rattle.kv_types.specs.declared.record_id.RecordId.TheVariants.{Str, Field}
use Rattle.kv_types.specs.Keyspace.{key_of, record_cmp, value_at}
use Rattle.kv_types.proofs.OrderLemmas.{key_itself, record_itself}
use Rattle.cmd_core.specs.Contents.{fields_of, has_key}
use Rattle.cmd_core.proofs.RecordsLemmas.{fields_more, fields_none, has_more}
use Rattle.model.specs.declared.group.PlacedChange.{PlacedChange}
use Rattle.model.specs.declared.group.PlacedChange.TheVariants as placed
use Rattle.model.specs.Group.{change_of}
use Rattle.mv_keyspace.specs.Keys.{changed_key}
use Rattle.mv_keyspace.specs.declared.slot.Slot.{Slot}
use Rattle.mv_keyspace.specs.declared.slot.Slot.TheVariants as slot
use Rattle.mv_keyspace.specs.declared.version.Version.{Version}
use Rattle.mv_keyspace.specs.Row.{cell_of_row, ended_rows, records_of, table_of}
use Rattle.mv_keyspace.specs.Slot.{rows_of, is_field, is_list}
use Rattle.mv_keyspace.specs.Table.{cell_at, place}
use Rattle.mv_keyspace.specs.Version.{string_row}
use Rattle.mv_keyspace.proofs.PlacingLemmas.{same_Some}

pub slot-ordered : (key : List ℕ) (s : Slot) → IsTrue (is_sorted record_cmp (records_of (rows_of key s)))
slot-ordered key (slot.Vacant awaited) = refl
slot-ordered key (slot.Str awaited version) = refl
slot-ordered key (slot.Rows list) = list.in_order

-- ---- what is read of a string

module _ (key : List ℕ) (version : Version) where
  pub string-value : value_at (records_of (string_row key version ∷ [])) (Str key) ≡ Some version.value
  string-value = ap (λ b. cond b (Some version.value) None) (record_itself (Str key))

  pub string-has : has_key (records_of (string_row key version ∷ [])) key ≡ true
  string-has = has_more (Str key, version.value) [] key ∙ ap (λ b. b || has_key [] key) (key_itself key)

  pub string-no_fields : fields_of (records_of (string_row key version ∷ [])) key ≡ []
  string-no_fields = fields_more (Str key, version.value) [] key ∙ fields_none key

  pub string-cell : cell_at (table_of (string_row key version ∷ [])) (Str key) ≡ Some (cell_of_row (string_row key version))
  string-cell = ap (λ b. cond b (Some (cell_of_row (string_row key version))) None) (record_itself (Str key))

-- ---- a change of the key, where there is no list

-- the change drops the string of the key
pub drops-string : (key own : List ℕ) (c : PlacedChange) (id : RecordId) → c ≡ placed.Drop id → id ≡ Str own → changed_key (change_of c) ≡ Some key → c ≡ placed.Drop (Str key)
drops-string key own c id is string changed =
    let same = same_Some own key (sym (ap (λ change. changed_key (change_of change)) is ∙ ap (λ id. Some (key_of id)) string) ∙ changed) in
    is ∙ ap placed.Drop string ∙ ap (λ k. placed.Drop (Str k)) same

module _ (key : List ℕ) (s : Slot) (plain : is_list s ≡ false) (c : PlacedChange) (is : c ≡ placed.Drop (Str key)) where
  pub ended-string : ended_rows (change_of c) (table_of (rows_of key s)) ≡ table_of (rows_of key s)
  ended-string = ap (λ change. ended_rows (change_of change) (table_of (rows_of key s))) is ∙ grind (arith, plain, record_itself (Str key))

  pub placed-string : (position : ℕ) → place position (table_of (rows_of key s)) c ≡ []
  placed-string position = ap (place position (table_of (rows_of key s))) is ∙ grind (arith, plain, record_itself (Str key))

-- ---- a row behind that of a string

-- it is no string of the key
pub none-behind : (id : RecordId) (value other : List ℕ) → is_field id ≡ false → IsTrue (is_sorted record_cmp ((Str (key_of id), value) ∷ (id, other) ∷ [])) → ⊥
none-behind (Str key) value other string sorted = grind (arith, tied_itself nat_list_cmp_total key)
none-behind (Field key field) value other string sorted = cc
