-- Changes made one after another: what holds between two of them.
use Rattle.std.proofs.Common.{drop_of_length-le, ◌≡◌, ℕ, ◌<◌, List, [], ◌∷◌, ◌++◌, length, refl, sym, ap, subst, ◌∙◌, append_assoc, subst₂, drop, get_or, ◌+◌, ◌≤◌, not, length-append, arith}
use Rattle.std.proofs.lemmas.List.Filters.{length-filter_both}
use Rattle.std.proofs.lemmas.List.{append-nil, drop_more}
use Rattle.std.specs.FinMap.Entries.{where_key}
use Rattle.kv_types.specs.declared.record_id.RecordId.{RecordId}
use Rattle.kv_types.specs.declared.record_id.RecordId.TheVariants.{Str, Field}
use Rattle.kv_types.specs.declared.change.Change.TheVariants as kinds
use Rattle.kv_types.specs.Keyspace.{record_cmp}
use Rattle.kv_types.specs.declared.change.Change.{Change}
use Rattle.mv_keyspace.specs.declared.row.Row.{Row}
use Rattle.mv_keyspace.proofs.ListLemmas.{length_map, entry_of, more_entries}
use Rattle.kv_types.specs.declared.place.EntryNo.{EntryNo}
use Rattle.model.specs.declared.group.Put.{Put}
use Rattle.model.specs.declared.group.PlacedChange.{PlacedChange}
use Rattle.model.specs.declared.group.PlacedChange.TheVariants as placed
use Rattle.model.specs.Group.{change_of, ends_record, put_of}
use Rattle.mv_keyspace.specs.Table.{Cell, Table, with_cell, entries_of, cell_of_put, place, place_all, puts_of, AreFresh, IsLawful, AreEnded, AreNumbersEnded}
use Rattle.mv_keyspace.specs.Row.{ended_rows, spared_rows, rows_of_puts, numbers_of, table_of}
use Rattle.mv_keyspace.proofs.TableMembers.{IsSortedTable}
use Rattle.mv_keyspace.proofs.AppendedLemmas.{ended-first}
use Rattle.mv_keyspace.proofs.EndedLemmas.{place-made, lawful-place, fresh-place, none-ended}

-- The numbers after those that were there are exactly the ones that the changes ended.
pub record NamesMore (position : ℕ) (table : Table) (changes : List PlacedChange) (before after : List ℕ) : Type 0 where
  pub more : List ℕ
  pub after_is : after ≡ before ++ more
  pub ended : AreNumbersEnded position table changes more

-- From `start` on, all changes before `rest` have been made: the table is now `table`, the rows of `rest` are staged, and `ended` were named so far,
-- of which `before` were there at the start.
pub record Playing (position : ℕ) (start : Table) (all : List PlacedChange) (before : List ℕ) (table : Table) (rest : List PlacedChange) (waiting : Table) (ended : List ℕ) : Type 0 where
  pub lawful : IsLawful table
  pub fresh : AreFresh table (puts_of rest)
  pub staged : waiting ≡ rows_of_puts position (puts_of rest)
  pub same : place_all position table rest ≡ place_all position start all
  pub numbers : (more : List ℕ) → AreNumbersEnded position table rest more → NamesMore position start all before (ended ++ more)

pub playing-start : (position : ℕ) (table : Table) (changes : List PlacedChange) (before : List ℕ) (staged : Table) → IsLawful table → AreFresh table (puts_of changes) → staged ≡ rows_of_puts position (puts_of changes)
    → Playing position table changes before table changes staged before
playing-start position table changes before staged lawful fresh is = record {
  lawful = lawful;
  fresh = fresh;
  staged = is;
  same = refl;
  numbers = λ more h. record { more = more; after_is = refl; ended = h };
}

module _ (position : ℕ) (start : Table) (all : List PlacedChange) (before : List ℕ) (table : Table) (c : PlacedChange) (rest : List PlacedChange) (staged : Table) (ended : List ℕ)
    (playing : Playing position start all before table (c ∷ rest) staged ended) where
  pub playing-place : (left : Table) → left ≡ rows_of_puts position (puts_of rest) → Playing position start all before (place position table c) rest left (ended ++ entries_of (ended_rows (change_of c) table))
  playing-place left is = record {
    lawful = lawful-place position c rest table playing.lawful playing.fresh;
    fresh = fresh-place position c rest table playing.lawful playing.fresh;
    staged = is;
    same = playing.same;
    numbers = λ more h.
        subst (λ numbers. NamesMore position start all before numbers) (sym (append_assoc ended (entries_of (ended_rows (change_of c) table)) more))
        (playing.numbers (entries_of (ended_rows (change_of c) table) ++ more) (ended-first position c rest table playing.lawful playing.fresh more h));
  }

-- what a put ends is a matter of its record alone
pub ended-put_id : (id other : RecordId) (value value' : List ℕ) (table : Table) → id ≡ other → length (where_key record_cmp (ends_record (kinds.Put id value)) table) ≡ length (ended_rows (kinds.Put other value') table)
ended-put_id id other value value' table is = (λ k. length (where_key record_cmp (ends_record (kinds.Put (is k) value)) table)) ∙ own other
  where
    own : (other : RecordId) → length (where_key record_cmp (ends_record (kinds.Put other value)) table) ≡ length (ended_rows (kinds.Put other value') table)
    own (Str key) = refl
    own (Field key field) = refl

-- the first row that is staged is that of the put
module _ (position : ℕ) (put : Put) (later : List Put) (table : Table) (staged left : Table) (id : RecordId) (cell : Cell) (is : staged ≡ rows_of_puts position (put ∷ later)) (first : staged ≡ (id, cell) ∷ left) where
  same_row : ◌≡◌ {A = RecordId × Cell} (id, cell) (put.id, cell_of_put position put)
  same_row = cc

  pub id-first : id ≡ put.id
  id-first = ap (λ (p : RecordId × Cell). p.0) same_row

  pub left-first : left ≡ rows_of_puts position later
  left-first = cc

  pub placed-first : IsSortedTable table → with_cell id cell (spared_rows (change_of (placed.Put put)) table) ≡ place position table (placed.Put put)
  placed-first sorted = ap (λ (p : RecordId × Cell). with_cell p.0 p.1 (spared_rows (change_of (placed.Put put)) table)) same_row ∙ place-made position put table sorted

-- ended entries of which the later ones are those that the changes ended
pub playing-named : {position : ℕ} {start : Table} {all : List PlacedChange} {table : Table} {waiting : Table} (n : ℕ) (before ended : List EntryNo) → Playing position start all (numbers_of before) table (drop n all) waiting (numbers_of ended) → length all ≤ n
    → (more : List EntryNo) × (ended ≡ before ++ more) × AreEnded position start all more
playing-named {position} {start} {all} {table} {waiting} n before ended playing past =
    let last = subst (λ rest. Playing position start all (numbers_of before) table rest waiting (numbers_of ended)) (drop_of_length-le all past) playing in
    let names = subst (λ numbers. NamesMore position start all (numbers_of before) numbers) (append-nil (numbers_of ended)) (last.numbers [] (none-ended position table)) in
    let more = more_entries before ended names.more names.after_is in
    (more.0, more.1, subst (AreNumbersEnded position start all) (sym more.2) names.ended)

-- ---- the same along the list of all changes

module _ {position : ℕ} {start : Table} {all : List PlacedChange} {before : List ℕ} {table : Table} {waiting : Table} {ended : List ℕ} (n : ℕ) {c : PlacedChange}
    (playing : Playing position start all before table (drop n all) waiting ended) (lt : n < length all) (is : c ≡ get_or all n c) where
  at_change : Playing position start all before table (c ∷ drop (n + 1) all) waiting ended
  at_change = subst (λ rest. Playing position start all before table rest waiting ended) (drop_more all n c lt ∙ ap (λ x. x ∷ drop (n + 1) all) (sym is)) playing

  pub staged-step : waiting ≡ rows_of_puts position (put_of c ++ puts_of (drop (n + 1) all))
  staged-step = at_change.staged

  pub change-step : (after left : Table) → after ≡ place position table c → left ≡ rows_of_puts position (puts_of (drop (n + 1) all)) → (named : List ℕ) → named ≡ ended ++ entries_of (ended_rows (change_of c) table)
      → Playing position start all before after (drop (n + 1) all) left named
  change-step after left is left_is named is_named =
      subst₂ (λ t e. Playing position start all before t (drop (n + 1) all) left e) (sym is) (sym is_named)
      (playing-place position start all before table c (drop (n + 1) all) waiting ended at_change left left_is)

-- ---- room

-- the rows of these puts are staged
pub length-made : (position : ℕ) (puts : List Put) (rows : List Row) → table_of rows ≡ rows_of_puts position puts → length rows ≡ length puts
length-made position puts rows is =
    omega (arith, ap (λ (t : Table). length t) is, length_map entry_of rows, length_map {Y = RecordId × Cell} (λ (put : Put). (put.id, cell_of_put position put)) puts)

pub length-staged : (position : ℕ) (puts later : List Put) (rows : List Row) → table_of rows ≡ rows_of_puts position (puts ++ later) → length puts ≤ length rows
length-staged position puts later rows is = omega (arith, length-made position (puts ++ later) rows is, length-append puts later)

-- a change ends rows that are there
pub ended-few : (c : Change) (rows : List Row) → length (ended_rows c (table_of rows)) ≤ length rows
ended-few c rows = omega (arith, length-filter_both (λ (row : RecordId × Cell). ends_record c row.0) (λ row. not (ends_record c row.0)) (λ row. refl) (table_of rows), length_map entry_of rows)
