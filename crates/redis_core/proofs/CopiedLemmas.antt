-- A copy stays what it is while changes are made at later positions.
use Rattle.std.proofs.Common.{◌≡◌, ◌≢◌, ℕ, ◌<◌, List, [], ◌∷◌, ◌++◌, length, Option, Some, None, Contains, refl, sym, ap, subst, ◌∙◌, arith}
use Rattle.std.specs.Prelude.{max}
use Rattle.kv_types.specs.declared.change.Change.{Change}
use Rattle.kv_types.specs.declared.record_id.RecordId.{RecordId}
use Rattle.kv_types.specs.Keyspace.{Keyspace}
use Rattle.mv_keyspace.specs.declared.row.Row.{Row}
use Rattle.mv_keyspace.specs.Paging.{page}
use Rattle.mv_keyspace.specs.Row.{table_of}
use Rattle.mv_keyspace.specs.Table.{Table, records}
use Rattle.mv_keyspace.specs.Versions.{Versions, shown}
use Rattle.redis_core.specs.declared.copying.Copying.{Copying}
use Rattle.redis_core.specs.Copying.{CopyOf, IsBefore, IsNextPart, IsPinned, copy_in, last_of, next_part, pins_of}
use Rattle.redis_core.specs.Stored.{last_after}
use Rattle.mv_keyspace.proofs.DistinctLemmas.{here}

pub copy-kept : (copying : Option Copying) (pins : List ℕ) (table table' : Table) (past past' : Versions) (position : ℕ) → pins ≡ pins_of copying → IsPinned copying
    → ((pin : ℕ) → Contains pins pin → pin < position → shown pin table' past' ≡ shown pin table past)
    → IsBefore (copy_in table past copying) position → copy_in table' past' copying ≡ copy_in table past copying
copy-kept None pins table table' past past' position are pinned same before = refl
copy-kept (Some copying) pins table table' past past' position are pinned same before =
    let pin = copying.pin.position in
    let held : Contains pins pin = subst (λ (all : List ℕ). Contains all pin) (sym are) (here pin []) in
    ap (λ (rows : Table). Some (record { position = copying.position; rows = rows; after = copying.after; parts = copying.parts })) (same pin held (omega (arith, pinned, before)))

pub last-made : (changes : List Change) (last position now : ℕ) → length changes ≢ 0 → now ≡ max last position → now ≡ last_after last position changes
last-made [] last position now some e = absurd (some refl)
last-made (change ∷ changes) last position now some e = e

-- ---- the next part, from the rows of a page

last_row : (before : Option RecordId) (front : List Row) (row : Row) → last_of before (table_of (front ++ row ∷ [])) ≡ Some row.id
last_row before [] row = refl
last_row before (other ∷ front) row = last_row (Some other.id) front row

some_row : (front : List Row) (row : Row) → table_of (front ++ row ∷ []) ≡ [] → ⊥
some_row [] row e = cc
some_row (other ∷ front) row e = cc

pub next-part : (bytes : ℕ) (copy : CopyOf) (rows front : List Row) (row : Row) (puts : Keyspace) (last : RecordId) → table_of rows ≡ next_part bytes copy → rows ≡ front ++ row ∷ []
    → puts ≡ records (table_of rows) → last ≡ row.id → IsNextPart bytes copy puts last
next-part bytes copy rows front row puts last page_is split puts_are last_is =
    let these : table_of (front ++ row ∷ []) ≡ next_part bytes copy = ap table_of (sym split) ∙ page_is in
    record {
      some = λ none. some_row front row (these ∙ ap (page bytes) none);
      puts_are = puts_are ∙ ap records page_is;
      last_is = ap (last_of copy.after) (sym these) ∙ last_row copy.after front row ∙ ap Some (sym last_is);
    }
