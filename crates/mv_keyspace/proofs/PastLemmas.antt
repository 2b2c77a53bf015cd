-- The versions that ended, as the code keeps them.
use Rattle.std.proofs.Common.{◌≡◌, ℕ, zero, suc, ◌+◌, ◌<◌, ◌≤◌, Bool, true, false, cond, not, ◌||◌, ◌==◌, List, [], ◌∷◌, ◌++◌, length, take, drop, get_or, Some, IsTrue, nat_lt, refl, sym, ap, subst, ◌∙◌, add-one, arith}
use Rattle.std.specs.Prelude.{filter, max}
use Rattle.std.specs.List.{AllByRecursion}
use Rattle.kv_types.specs.declared.record_id.RecordId.{RecordId}
use Rattle.kv_types.proofs.LookUpLemmas.{is_same}
use Rattle.mv_keyspace.specs.declared.row.Row.{Row}
use Rattle.mv_keyspace.specs.declared.past.Ended.{Ended}
use Rattle.mv_keyspace.specs.Table.{Table, cell_at, with_cell}
use Rattle.mv_keyspace.specs.Row.{cell_of_row, table_of}
use Rattle.mv_keyspace.specs.Versions.{Span, Versions, is_pinned, is_shown, last_among, reclaimed, version_of, versions_of, with_past, without_pin}
use Rattle.mv_keyspace.proofs.TableLemmas.{cell_at-with_cell}

-- ---- pins

pub first-pin : (pins : List ℕ) → IsTrue (not (length pins == 0)) → (pin : ℕ) × (rest : List ℕ) × (pins ≡ pin ∷ rest)
first-pin [] some = cc
first-pin (pin ∷ pins) some = (pin, pins, refl)

-- ---- positions

abbrev pub AreUpTo : ℕ → Table → Type 0
AreUpTo position = AllByRecursion (λ row. row.1.position ≤ position)

-- of one row more, and a bound that rises
up_to-next : (rows : List Row) (i : ℕ) (row : Row) (low high : ℕ) → i < length rows → row ≡ get_or rows i row → low ≤ high → row.position ≤ high → AreUpTo low (table_of (take i rows)) → AreUpTo high (table_of (take (suc i) rows))
up_to-next [] i row low high lt is rise at all = absurd (omega arith)
up_to-next (first ∷ rows) zero row low high lt is rise at all = (omega (arith, at, ap (λ (r : Row). r.position) is), tt)
up_to-next (first ∷ rows) (suc i) row low high lt is rise at all = (omega (arith, all.0), up_to-next rows i row low high (omega arith) is rise at all.1)

pub up_to-more : (rows : List Row) (i : ℕ) (row : Row) (low high : ℕ) → i < length rows → row ≡ get_or rows i row → low ≤ high → row.position ≤ high → AreUpTo low (table_of (take i rows)) → AreUpTo high (table_of (take (i + 1) rows))
up_to-more rows i row low high lt is rise at all = subst (λ n. AreUpTo high (table_of (take n rows))) (sym (add-one i)) (up_to-next rows i row low high lt is rise at all)

last-next : (rows : List Row) (i : ℕ) (row : Row) (low high : ℕ) → i < length rows → row ≡ get_or rows i row → high ≡ max low row.position → last_among high (table_of (drop (suc i) rows)) ≡ last_among low (table_of (drop i rows))
last-next [] i row low high lt is rise = absurd (omega arith)
last-next (first ∷ rows) zero row low high lt is rise = ap (λ n. last_among n (table_of rows)) (rise ∙ ap (λ (r : Row). max low r.position) is)
last-next (first ∷ rows) (suc i) row low high lt is rise = last-next rows i row low high (omega arith) is rise

-- the last change among the rows that are left, once one of them is taken note of
pub last-step : (rows : List Row) (i : ℕ) (row : Row) (low high : ℕ) → i < length rows → row ≡ get_or rows i row → high ≡ max low row.position → last_among high (table_of (drop (i + 1) rows)) ≡ last_among low (table_of (drop i rows))
last-step rows i row low high lt is rise = subst (λ n. last_among high (table_of (drop n rows)) ≡ last_among low (table_of (drop i rows))) (sym (add-one i)) (last-next rows i row low high lt is rise)

-- ---- what is shown

with_past-last : (at : ℕ) (past : Versions) (version : RecordId × Span) (table : Table)
    → with_past at (past ++ version ∷ []) table ≡ cond (is_shown at version.1) (with_cell version.0 version.1.cell (with_past at past table)) (with_past at past table)
with_past-last at [] version table = refl
with_past-last at (first ∷ past) version table = with_past-last at past version (cond (is_shown at first.1) (with_cell first.0 first.1.cell table) table)

versions-next : (ended : List Ended) (i : ℕ) (item : Ended) → i < length ended → item ≡ get_or ended i item → versions_of (take (suc i) ended) ≡ versions_of (take i ended) ++ version_of item ∷ []
versions-next [] i item lt is = absurd (omega arith)
versions-next (first ∷ ended) zero item lt is = ap (λ (e : Ended). version_of e ∷ []) (sym is)
versions-next (first ∷ ended) (suc i) item lt is = ap (λ vs. version_of first ∷ vs) (versions-next ended i item (omega arith) is)

-- what is shown with one version more
pub past-more : (at : ℕ) (ended : List Ended) (i : ℕ) (item : Ended) → i < length ended → item ≡ get_or ended i item
    → with_past at (versions_of (take (i + 1) ended)) []
    ≡ cond (is_shown at (version_of item).1) (with_cell item.row.id (cell_of_row item.row) (with_past at (versions_of (take i ended)) [])) (with_past at (versions_of (take i ended)) [])
past-more at ended i item lt is =
    ap (λ n. with_past at (versions_of (take n ended)) []) (add-one i)
    ∙ ap (λ vs. with_past at vs []) (versions-next ended i item lt is)
    ∙ with_past-last at (versions_of (take i ended)) (version_of item) []

-- what one version more shows of a record
pub shown-more : (at : ℕ) (ended : List Ended) (i : ℕ) (item : Ended) (id : RecordId) → i < length ended → item ≡ get_or ended i item
    → cell_at (with_past at (versions_of (take (i + 1) ended)) []) id
    ≡ cond (is_shown at (version_of item).1) (cond (is_same id item.row.id) (Some (cell_of_row item.row)) (cell_at (with_past at (versions_of (take i ended)) []) id)) (cell_at (with_past at (versions_of (take i ended)) []) id)
shown-more at ended i item id lt is =
    ap (λ n. cell_at (with_past at (versions_of (take n ended)) []) id) (add-one i)
    ∙ ap (λ vs. cell_at (with_past at vs []) id) (versions-next ended i item lt is)
    ∙ ap (λ t. cell_at t id) (with_past-last at (versions_of (take i ended)) (version_of item) [])
    ∙ step (is_shown at (version_of item).1)
  where
    before : Table
    before = with_past at (versions_of (take i ended)) []

    step : (b : Bool) → cell_at (cond b (with_cell item.row.id (cell_of_row item.row) before) before) id ≡ cond b (cond (is_same id item.row.id) (Some (cell_of_row item.row)) (cell_at before id)) (cell_at before id)
    step true = cell_at-with_cell before item.row.id (cell_of_row item.row) id
    step false = refl

-- ---- what is reclaimed

pub versions-reclaimed : (horizon : ℕ) (pins : List ℕ) (ended : List Ended)
    → versions_of (filter (λ (e : Ended). nat_lt horizon e.end || is_pinned pins (version_of e).1) ended) ≡ reclaimed horizon pins (versions_of ended)
versions-reclaimed horizon pins [] = refl
versions-reclaimed horizon pins (first ∷ ended) = grind (arith, versions-reclaimed horizon pins ended)

-- ---- the pin that is taken back

pub without-here : (position : ℕ) (pins : List ℕ) (i : ℕ) → i < length pins → get_or pins i 0 ≡ position → without_pin position (drop i pins) ≡ drop (suc i) pins
without-here position [] i lt is = absurd (omega arith)
without-here position (pin ∷ pins) zero lt is = grind arith
without-here position (pin ∷ pins) (suc i) lt is = without-here position pins i (omega arith) is
