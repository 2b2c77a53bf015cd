-- Distinct numbers of entries.
use Rattle.std.proofs.Common.{◌≡◌, ℕ, suc, false, List, [], ◌∷◌, ◌++◌, Some, Contains, IsTrue, nat_eq, refl, sym, ap, subst, ◌∙◌, ne_eqb, arith}
use Rattle.std.proofs.lemmas.Bool.{and_parts}
use Rattle.std.proofs.lemmas.Map.Keys.{IsDistinct-head, IsDistinct-tail, IsDistinct-cons}
use Rattle.std.proofs.lemmas.Option.{none-some}
use Rattle.std.specs.List.{AllByRecursion, IsDistinct}
use Rattle.std.specs.FinMap.Entries.{is_sorted, below_all}
use Rattle.kv_types.specs.declared.record_id.RecordId.{RecordId}
use Rattle.kv_types.specs.Keyspace.{record_cmp}
use Rattle.mv_keyspace.specs.Table.{Cell, Table, cell_at, entries_of}
use Rattle.mv_keyspace.proofs.AllLemmas.{All-append}
use Rattle.mv_keyspace.proofs.TableMembers.{IsSortedTable, found-from_entry, found-first, found-later, missed-below}

-- ---- lists of numbers

pub here : (x : ℕ) (xs : List ℕ) → Contains (x ∷ xs) x
here x xs = (0, omega arith, refl)

pub later : (x y : ℕ) (xs : List ℕ) → Contains xs y → Contains (x ∷ xs) y
later x y xs m = (suc m.0, omega (arith, m.1), m.2)

all_other : (x : ℕ) (xs : List ℕ) → ¬ Contains xs x → AllByRecursion (λ y. nat_eq x y ≡ false) xs
all_other x [] none = tt
all_other x (y ∷ xs) none = (ne_eqb x y (λ same. none (subst (λ z. Contains (y ∷ xs) z) (sym same) (here y xs))), all_other x xs (λ m. none (later y x xs m)))

pub distinct-none : IsDistinct nat_eq []
unfolding IsDistinct
distinct-none = tt

pub distinct-one : (x : ℕ) → IsDistinct nat_eq (x ∷ [])
unfolding IsDistinct
distinct-one x = (tt, tt)

-- two lists that share no number
pub distinct-append : (xs ys : List ℕ) → IsDistinct nat_eq xs → IsDistinct nat_eq ys → ((i : ℕ) → Contains xs i → ¬ Contains ys i) → IsDistinct nat_eq (xs ++ ys)
distinct-append [] ys distinct distinct' apart = distinct'
distinct-append (x ∷ xs) ys distinct distinct' apart =
    IsDistinct-cons nat_eq x (xs ++ ys) (All-append (λ y. nat_eq x y ≡ false) xs ys (IsDistinct-head nat_eq x xs distinct) (all_other x ys (apart x (here x xs))))
    (distinct-append xs ys (IsDistinct-tail nat_eq x xs distinct) distinct' (λ i m. apart i (later x i xs m)))

-- ---- the entries of a table

-- no two rows share an entry
abbrev pub HasEachOnce : Table → Type 0
HasEachOnce table = (id other : RecordId) (cell cell' : Cell) → cell_at table id ≡ Some cell → cell_at table other ≡ Some cell' → cell.entry ≡ cell'.entry → id ≡ other

pub entries-distinct : (table : Table) → IsSortedTable table → HasEachOnce table → IsDistinct nat_eq (entries_of table)
entries-distinct [] sorted once = distinct-none
entries-distinct (row ∷ table) sorted once =
    IsDistinct-cons nat_eq row.1.entry (entries_of table) (all_other row.1.entry (entries_of table) first_alone)
    (entries-distinct table parts.1 (λ id other cell cell' found found' same. once id other cell cell' (found-later row table id cell parts.0 found) (found-later row table other cell' parts.0 found') same))
  where
    parts : IsTrue (below_all record_cmp row.0 table) × IsTrue (is_sorted record_cmp table)
    parts = and_parts (below_all record_cmp row.0 table) (is_sorted record_cmp table) sorted

    first_alone : ¬ Contains (entries_of table) row.1.entry
    first_alone m =
        let of = found-from_entry table row.1.entry parts.1 m in
        let same = once row.0 of.id row.1 of.cell (found-first row table) (found-later row table of.id of.cell parts.0 of.found) (sym of.entry) in
        none-some of.cell (sym (ap (cell_at table) (sym same) ∙ missed-below row.0 table parts.0) ∙ of.found)
