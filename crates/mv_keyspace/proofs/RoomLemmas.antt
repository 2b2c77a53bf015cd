-- How many entries some changes end, at most.
use Rattle.std.proofs.Common.{◌≡◌, ℕ, ◌+◌, ◌≤◌, Bool, true, false, not, ◌||◌, List, [], ◌∷◌, length, IsTrue, refl, ap, length-append, arith}
use Rattle.std.specs.FinMap.Entries.{where_key, below_all}
use Rattle.std.specs.Cmp.{tied_itself}
use Rattle.kv_types.specs.declared.record_id.RecordId.{RecordId}
use Rattle.kv_types.specs.Keyspace.{record_cmp}
use Rattle.kv_types.specs.Order.{record_cmp_total}
use Rattle.kv_types.proofs.OrderLemmas.{same_record}
use Rattle.kv_types.proofs.LookUpLemmas.{is_same}
use Rattle.model.specs.declared.group.PlacedChange.{PlacedChange}
use Rattle.model.specs.declared.group.PlacedChange.TheVariants as placed
use Rattle.model.specs.Group.{change_of, ends_record, put_of}
use Rattle.mv_keyspace.specs.Row.{spared_rows}
use Rattle.mv_keyspace.specs.Slots.{ends, ends_at_once}
use Rattle.mv_keyspace.specs.Table.{Cell, Table, cell_of_put, place, puts_of, with_cell}
use Rattle.mv_keyspace.proofs.EndedLemmas.{place-made, place-spared}
use Rattle.mv_keyspace.proofs.ListLemmas.{placed-sorted}
use Rattle.mv_keyspace.proofs.TableMembers.{IsSortedTable}

abbrev count : (RecordId → Bool) → Table → ℕ
count p table = length (where_key record_cmp p table)

-- rows that pass one of two tests
count-either : (p q : RecordId → Bool) (table : Table) → count p table + count q (where_key record_cmp (λ id. not (p id)) table) ≡ count (λ id. p id || q id) table
count-either p q [] = refl
count-either p q (row ∷ table) = grind (arith, count-either p q table)

count-both : (p q : RecordId → Bool) (table : Table) → count (λ id. p id || q id) table ≤ count p table + count q table
count-both p q [] = omega arith
count-both p q (row ∷ table) = grind (arith, count-both p q table)

-- a record that is put counts one at most
count-put : (p : RecordId → Bool) (id : RecordId) (cell : Cell) (table : Table) → count p (with_cell id cell table) ≤ 1 + count p table
count-put p id cell [] = grind arith
count-put p id cell (row ∷ table) = grind (arith, count-put p id cell table)

count-placed : (position : ℕ) (p : RecordId → Bool) (c : PlacedChange) (table : Table) → IsSortedTable table → count p (place position table c) ≤ length (put_of c) + count p (spared_rows (change_of c) table)
count-placed position p (placed.Put put) table sorted =
    omega (arith, ap (count p) (place-made position put table sorted), count-put p put.id (cell_of_put position put) (spared_rows (change_of (placed.Put put)) table))
count-placed position p (placed.Drop id) table sorted = omega (arith, ap (count p) (place-spared position (placed.Drop id) table refl))
count-placed position p (placed.DropKey key) table sorted = omega (arith, ap (count p) (place-spared position (placed.DropKey key) table refl))
count-placed position p placed.Clear table sorted = omega (arith, ap (count p) (place-spared position placed.Clear table refl))

-- one of the changes ends the record
abbrev ends_one : List PlacedChange → RecordId → Bool
ends_one [] id = false
ends_one (c ∷ changes) id = ends_record (change_of c) id || ends_one changes id

none-ends : (table : Table) → count (ends_one []) table ≡ 0
none-ends [] = refl
none-ends (row ∷ table) = none-ends table

all-at-once : (table : Table) (changes : List PlacedChange) → count (ends_one changes) table ≤ ends_at_once table changes
all-at-once table [] = omega (arith, none-ends table)
all-at-once table (c ∷ changes) = omega (arith, count-both (ends_record (change_of c)) (ends_one changes) table, all-at-once table changes)

all-ends : (position : ℕ) (table : Table) (changes : List PlacedChange) → IsSortedTable table → ends position table changes ≤ count (ends_one changes) table + length (puts_of changes)
all-ends position table [] sorted = omega arith
all-ends position table (c ∷ changes) sorted =
    omega (arith, all-ends position (place position table c) changes (placed-sorted position table c sorted), count-placed position (ends_one changes) c table sorted, count-either (ends_record (change_of c)) (ends_one changes) table, length-append (put_of c) (puts_of changes))

-- together the changes end no more rows than each of them would end, and those that they make
pub ends-few : (position : ℕ) (table : Table) (changes : List PlacedChange) → IsSortedTable table → ends position table changes ≤ ends_at_once table changes + length (puts_of changes)
ends-few position table changes sorted = omega (arith, all-ends position table changes sorted, all-at-once table changes)

-- ---- a record is one row at most

none-above : (first id : RecordId) (table : Table) → is_same first id ≡ true → IsTrue (below_all record_cmp first table) → count (λ other. is_same other id) table ≡ 0
none-above first id [] same below = refl
none-above first id (row ∷ table) same below = grind (arith, same_record first id same, same_record row.0 id, tied_itself record_cmp_total id, none-above first id table same)

pub one-record : (id : RecordId) (table : Table) → IsSortedTable table → count (λ other. is_same other id) table ≤ 1
one-record id [] sorted = omega arith
one-record id (row ∷ table) sorted = grind (arith, none-above row.0 id table, one-record id table)

pub two-records : (id other : RecordId) (table : Table) → IsSortedTable table → count (λ x. is_same x id || is_same x other) table ≤ 2
two-records id other table sorted = omega (arith, count-both (λ x. is_same x id) (λ x. is_same x other) table, one-record id table sorted, one-record other table sorted)
