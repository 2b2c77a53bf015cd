-- All rows that a table is to hold, in any order.
use Rattle.std.specs.Prelude.{◌≡◌, Bool, ◌||◌, ◌↔◌, Contains, Some, nat_eq}
use Rattle.std.specs.List.{IsDistinct}
use Rattle.kv_types.specs.declared.record_id.RecordId.{RecordId}
use Rattle.model.specs.ReadImage.{is_clash}
use Rattle.mv_keyspace.specs.Table.{Cell, Table, cell_at, IsLawful}

-- no table has both rows: no keyspace has both records, or they share an entry
abbrev pub excludes : RecordId × Cell → RecordId × Cell → Bool
excludes row other = is_clash row.0 other.0 || nat_eq row.1.entry other.1.entry

-- Each record comes once, no key has both a string and fields, and no two rows share an entry.
abbrev pub AreCompatible : Table → Type 0
AreCompatible rows = IsDistinct excludes rows

-- The table has these rows and no others, in the order of records.
pub record HasRows (rows table : Table) : Type 0 where
  pub lawful : IsLawful table
  pub these : (id : RecordId) (cell : Cell) → (cell_at table id ≡ Some cell) ↔ Contains rows (id, cell)
