-- A change of one key, where its rows stand between those of lesser and of greater keys.
use Rattle.std.proofs.Common.{◌≡◌, ℕ, Bool, true, false, not, ◌||◌, List, [], ◌∷◌, ◌++◌, length, Some, refl, sym, ap, ap₂, subst, ◌∙◌, ◌≤◌, arith}
use Rattle.std.proofs.lemmas.List.{append-nil}
use Rattle.std.proofs.lemmas.List.Elements.{filter-append}
use Rattle.std.proofs.lemmas.Bool.{false_from_ne_true}
use Rattle.std.specs.List.{AllByRecursion}
use Rattle.std.specs.FinMap.Entries.{where_key}
use Rattle.std.specs.Cmp.{tied_itself}
use Rattle.std.specs.Cmp.Lexicographic.{nat_list_cmp_total}
use Rattle.std.specs.declared.cmp.Ordering.{Ordering}
use Rattle.std.specs.declared.cmp.Ordering.TheVariants.{Less, Equal, Greater}
use Rattle.kv_types.specs.declared.record_id.RecordId.{RecordId}
use Rattle.kv_types.specs.declared.record_id.RecordId.TheVariants.{Str, Field}
use Rattle.kv_types.specs.declared.change.Change.{Change}
use Rattle.kv_types.specs.declared.change.Change.TheVariants as change
use Rattle.kv_types.specs.Keyspace.{key_of, bytes_cmp, record_cmp}
use Rattle.kv_types.proofs.OrderLemmas.{same_record, same_key}
use Rattle.kv_types.proofs.LookUpLemmas.{is_same, is_same_key}
use Rattle.model.specs.declared.group.PlacedChange.{PlacedChange}
use Rattle.model.specs.declared.group.PlacedChange.TheVariants as placed
use Rattle.model.specs.Group.{change_of, ends_record, put_of}
use Rattle.mv_keyspace.specs.Keys.{changed_key}
use Rattle.mv_keyspace.specs.Row.{ended_rows}
use Rattle.mv_keyspace.specs.Table.{Cell, Table, with_cell, without_row, without_rows, cell_of_put, placed_at, place}
use Rattle.mv_keyspace.specs.Slots.{AreOfKey}
use Rattle.mv_keyspace.proofs.SlotLemmas.{AllStand}

-- ---- a test that all rows outside the key answer alike

-- the test answers b at each of the rows
abbrev AllAnswer : (RecordId → Bool) → Bool → Table → Type 0
AllAnswer p b = AllByRecursion (λ row. p row.0 ≡ b)

where-kept : (p : RecordId → Bool) (rows more : Table) → AllAnswer p true rows → where_key record_cmp p (rows ++ more) ≡ rows ++ where_key record_cmp p more
where-kept p [] more all = refl
where-kept p (row ∷ rows) more all = grind (arith, where-kept p rows more all.1)

where-gone : (p : RecordId → Bool) (rows more : Table) → AllAnswer p false rows → where_key record_cmp p (rows ++ more) ≡ where_key record_cmp p more
where-gone p [] more all = refl
where-gone p (row ∷ rows) more all = grind (arith, where-gone p rows more all.1)

where-between : (p : RecordId → Bool) (before rows after : Table) → AllAnswer p true before → AllAnswer p true after → where_key record_cmp p (before ++ (rows ++ after)) ≡ before ++ (where_key record_cmp p rows ++ after)
where-between p before rows after first last =
    where-kept p before (rows ++ after) first ∙ ap (λ t. before ++ t) (filter-append (λ row. p row.0) rows after ∙ ap (λ t. where_key record_cmp p rows ++ t) (where-all last))
  where
    where-all : AllAnswer p true after → where_key record_cmp p after ≡ after
    where-all all = ap (where_key record_cmp p) (sym (append-nil after)) ∙ where-kept p after [] all ∙ append-nil after

where-within : (p : RecordId → Bool) (before rows after : Table) → AllAnswer p false before → AllAnswer p false after → where_key record_cmp p (before ++ (rows ++ after)) ≡ where_key record_cmp p rows
where-within p before rows after first last =
    where-gone p before (rows ++ after) first ∙ filter-append (λ row. p row.0) rows after
    ∙ ap (λ t. where_key record_cmp p rows ++ t) (ap (where_key record_cmp p) (sym (append-nil after)) ∙ where-gone p after [] last) ∙ append-nil (where_key record_cmp p rows)

-- ---- a record put between others

module _ (id : RecordId) (cell : Cell) where
  put-after : (rows more : Table) → AllStand Greater (key_of id) rows → with_cell id cell (rows ++ more) ≡ rows ++ with_cell id cell more
  put-after [] more all = refl
  put-after (row ∷ rows) more all = grind (arith, put-after rows more all.1)

  put-before : (rows after : Table) → AllStand Less (key_of id) after → with_cell id cell (rows ++ after) ≡ with_cell id cell rows ++ after
  put-before [] [] all = refl
  put-before [] (row ∷ after) all = grind arith
  put-before (row ∷ rows) after all = grind (arith, put-before rows after all)

  put-between : (before rows after : Table) → AllStand Greater (key_of id) before → AllStand Less (key_of id) after → with_cell id cell (before ++ (rows ++ after)) ≡ before ++ (with_cell id cell rows ++ after)
  put-between before rows after lower upper = put-after before (rows ++ after) lower ∙ ap (λ t. before ++ t) (put-before rows after upper)

-- ---- what a change of the key does not touch

pub apart-keys : (order : Ordering) (key other : List ℕ) → bytes_cmp key other ≡ order → (order ≡ Equal → ⊥) → is_same_key other key ≡ false
apart-keys order key other is apart = false_from_ne_true (is_same_key other key) (λ e. apart (sym is ∙ ap (bytes_cmp key) (same_key other key e) ∙ tied_itself nat_list_cmp_total key))

apart-records : (order : Ordering) (id other : RecordId) → bytes_cmp (key_of id) (key_of other) ≡ order → (order ≡ Equal → ⊥) → is_same other id ≡ false
apart-records order id other is apart =
    false_from_ne_true (is_same other id) (λ e. apart (sym is ∙ ap (λ x. bytes_cmp (key_of id) (key_of x)) (same_record other id e) ∙ tied_itself nat_list_cmp_total (key_of id)))

not-key : (order : Ordering) (key : List ℕ) → (order ≡ Equal → ⊥) → (rows : Table) → AllStand order key rows → AllAnswer (λ other. not (is_same_key (key_of other) key)) true rows
not-key order key apart [] all = tt
not-key order key apart (row ∷ rows) all = (ap not (apart-keys order key (key_of row.0) all.0 apart), not-key order key apart rows all.1)

not-record : (order : Ordering) (id : RecordId) → (order ≡ Equal → ⊥) → (rows : Table) → AllStand order (key_of id) rows → AllAnswer (λ other. not (is_same other id)) true rows
not-record order id apart [] all = tt
not-record order id apart (row ∷ rows) all = (ap not (apart-records order id row.0 all.0 apart), not-record order id apart rows all.1)

pub not_tied_less : Less ≡ Equal → ⊥
not_tied_less e = cc

pub not_tied_greater : Greater ≡ Equal → ⊥
not_tied_greater e = cc

module _ (before rows after : Table) where
  without_rows-between : (key : List ℕ) → AllStand Greater key before → AllStand Less key after → without_rows key (before ++ (rows ++ after)) ≡ before ++ (without_rows key rows ++ after)
  without_rows-between key lower upper =
      where-between (λ other. not (is_same_key (key_of other) key)) before rows after (not-key Greater key not_tied_greater before lower) (not-key Less key not_tied_less after upper)

  without_row-between : (id : RecordId) → AllStand Greater (key_of id) before → AllStand Less (key_of id) after → without_row id (before ++ (rows ++ after)) ≡ before ++ (without_row id rows ++ after)
  without_row-between id lower upper =
      where-between (λ other. not (is_same other id)) before rows after (not-record Greater id not_tied_greater before lower) (not-record Less id not_tied_less after upper)

  placed-between : (id : RecordId) (cell : Cell) → AllStand Greater (key_of id) before → AllStand Less (key_of id) after → placed_at id cell (before ++ (rows ++ after)) ≡ before ++ (placed_at id cell rows ++ after)
  placed-between (Str key) cell lower upper =
      ap (with_cell (Str key) cell) (without_rows-between key lower upper) ∙ put-between (Str key) cell before (without_rows key rows) after lower upper
  placed-between (Field key field) cell lower upper =
      ap (with_cell (Field key field) cell) (without_row-between (Str key) lower upper) ∙ put-between (Field key field) cell before (without_row (Str key) rows) after lower upper

pub same_Some : (x y : List ℕ) → Some x ≡ Some y → x ≡ y
same_Some x y e = cc

-- a change of the key is made on the rows of the key
pub place-between : (position : ℕ) (key : List ℕ) (c : PlacedChange) (before rows after : Table) → changed_key (change_of c) ≡ Some key → AllStand Greater key before → AllStand Less key after
    → place position (before ++ (rows ++ after)) c ≡ before ++ (place position rows c ++ after)
place-between position key (placed.Put put) before rows after is lower upper =
    let own = sym (same_Some (key_of put.id) key is) in
    placed-between before rows after put.id (cell_of_put position put) (subst (λ k. AllStand Greater k before) own lower) (subst (λ k. AllStand Less k after) own upper)
place-between position key (placed.Drop id) before rows after is lower upper =
    let own = sym (same_Some (key_of id) key is) in
    without_row-between before rows after id (subst (λ k. AllStand Greater k before) own lower) (subst (λ k. AllStand Less k after) own upper)
place-between position key (placed.DropKey other) before rows after is lower upper =
    let own = sym (same_Some other key is) in
    without_rows-between before rows after other (subst (λ k. AllStand Greater k before) own lower) (subst (λ k. AllStand Less k after) own upper)
place-between position key placed.Clear before rows after is lower upper = cc

ends-apart : (order : Ordering) (key : List ℕ) (c : Change) (id : RecordId) → changed_key c ≡ Some key → bytes_cmp key (key_of id) ≡ order → (order ≡ Equal → ⊥) → ends_record c id ≡ false
ends-apart order key (change.Put (Str own) value) id is at apart = apart-keys order own (key_of id) (ap (λ k. bytes_cmp k (key_of id)) (same_Some own key is) ∙ at) apart
ends-apart order key (change.Put (Field own field) value) id is at apart =
    let stands = ap (λ k. bytes_cmp k (key_of id)) (same_Some own key is) ∙ at in
    ap₂ (λ (a b : Bool). a || b) (apart-records order (Field own field) id stands apart) (apart-records order (Str own) id stands apart)
ends-apart order key (change.Drop other) id is at apart = apart-records order other id (ap (λ k. bytes_cmp k (key_of id)) (same_Some (key_of other) key is) ∙ at) apart
ends-apart order key (change.DropKey own) id is at apart = apart-keys order own (key_of id) (ap (λ k. bytes_cmp k (key_of id)) (same_Some own key is) ∙ at) apart
ends-apart order key change.Clear id is at apart = cc

ends-none : (order : Ordering) (key : List ℕ) (c : Change) → changed_key c ≡ Some key → (order ≡ Equal → ⊥) → (rows : Table) → AllStand order key rows → AllAnswer (ends_record c) false rows
ends-none order key c is apart [] all = tt
ends-none order key c is apart (row ∷ rows) all = (ends-apart order key c row.0 is all.0 apart, ends-none order key c is apart rows all.1)

-- and ends rows of the key only
pub ended-within : (key : List ℕ) (c : Change) (before rows after : Table) → changed_key c ≡ Some key → AllStand Greater key before → AllStand Less key after → ended_rows c (before ++ (rows ++ after)) ≡ ended_rows c rows
ended-within key c before rows after is lower upper =
    where-within (ends_record c) before rows after (ends-none Greater key c is not_tied_greater before lower) (ends-none Less key c is not_tied_less after upper)

-- ---- the rows of a key stay so

own-where : (key : List ℕ) (p : RecordId → Bool) (rows : Table) → AreOfKey key rows → AreOfKey key (where_key record_cmp p rows)
own-where key p [] own = tt
own-where key p (row ∷ rows) own = grind (arith, own-where key p rows own.1)

own-put : (key : List ℕ) (id : RecordId) (cell : Cell) (rows : Table) → key_of id ≡ key → AreOfKey key rows → AreOfKey key (with_cell id cell rows)
own-put key id cell [] is own = (is, tt)
own-put key id cell (row ∷ rows) is own = grind (arith, own-put key id cell rows is own.1)

own-placed_at : (key : List ℕ) (id : RecordId) (cell : Cell) (rows : Table) → key_of id ≡ key → AreOfKey key rows → AreOfKey key (placed_at id cell rows)
own-placed_at key (Str own) cell rows is of = own-put key (Str own) cell (without_rows own rows) is (own-where key (λ other. not (is_same_key (key_of other) own)) rows of)
own-placed_at key (Field own field) cell rows is of =
    own-put key (Field own field) cell (without_row (Str own) rows) is (own-where key (λ other. not (is_same other (Str own))) rows of)

pub own-placed : (position : ℕ) (key : List ℕ) (c : PlacedChange) (rows : Table) → changed_key (change_of c) ≡ Some key → AreOfKey key rows → AreOfKey key (place position rows c)
own-placed position key (placed.Put put) rows is of = own-placed_at key put.id (cell_of_put position put) rows (same_Some (key_of put.id) key is) of
own-placed position key (placed.Drop id) rows is of = own-where key (λ other. not (is_same other id)) rows of
own-placed position key (placed.DropKey other) rows is of = own-where key (λ id. not (is_same_key (key_of id) other)) rows of
own-placed position key placed.Clear rows is of = tt

-- ---- a change that makes no row, where there is none

pub none-made : (c : PlacedChange) → length (put_of c) ≤ 0 → put_of c ≡ []
none-made c few = grind arith

pub place-none : (position : ℕ) (c : PlacedChange) → put_of c ≡ [] → place position [] c ≡ []
place-none position c none = grind arith
