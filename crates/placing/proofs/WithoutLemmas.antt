-- The heap and the table of contents without some versions that have ended.
use Rattle.std.proofs.Common.{◌≡◌, ℕ, Bool, true, false, cond, IsTrue, Option, Some, None, refl, sym, ap, ◌∙◌}
use Rattle.std.proofs.lemmas.Bool.{cond-false, false_from_ne_true, or_left, true≢false}
use Rattle.std.proofs.lemmas.Option.{none-some}
use Rattle.kv_types.specs.declared.record_id.RecordId.{RecordId}
use Rattle.extent_heap.specs.Room.{Room}
use Rattle.model.specs.Group.{Contents, Versions, is_ended_version, without}
use Rattle.model.specs.Image.{Version}
use Rattle.mv_keyspace.specs.Table.{Cell, IsCellOf, IsTable, Table}
use Rattle.placing.specs.Left.{IsLeftOf}

pub still_none : (gone : Bool) (old : Option Version) → old ≡ None → cond gone None old ≡ None
still_none true old none = refl
still_none false old none = none

-- what is left was there
was_there : (gone : Bool) (old : Option Version) (version : Version) → cond gone None old ≡ Some version → old ≡ Some version
was_there true old version e = absurd (none-some version e)
was_there false old version e = e

pub left-without : (gone : ℕ → Bool) (contents : Contents) (room : Room) → IsLeftOf contents room → IsLeftOf (without gone contents) room
left-without gone contents room left = record {
  entries = λ i free.
      let before = left.entries i free in
      (before.0, or_left (contents.is_free i) (gone i) before.1, still_none (gone i) (contents.versions i) before.2);
  lines = left.lines;
  apart = λ i version begun. left.apart i version (was_there (gone i) (contents.versions i) version begun);
}

cell_along : (old new : Versions) (id : RecordId) (cell : Cell) → new cell.entry ≡ old cell.entry → IsCellOf old id cell → IsCellOf new id cell
cell_along old new id cell same is = record {
  live = record { version = is.live.version; begun = same ∙ is.live.begun; not_ended = is.live.not_ended; id_is = is.live.id_is; value_is = is.live.value_is };
  position_is = is.position_is;
}

pub table-without : (gone : ℕ → Bool) (versions : Versions) (table : Table) → ((i : ℕ) → IsTrue (gone i) → IsTrue (is_ended_version (versions i))) → IsTable versions table
    → IsTable (λ i. cond (gone i) None (versions i)) table
table-without gone versions table ended is = record {
  keyspace = is.keyspace;
  live = λ id cell found.
      let of = is.live id cell found in
      let not_gone = false_from_ne_true (gone cell.entry) (λ listed. true≢false (sym (ended cell.entry listed) ∙ ap is_ended_version of.live.begun ∙ of.live.not_ended)) in
      cell_along versions (λ i. cond (gone i) None (versions i)) id cell (cond-false (gone cell.entry) None (versions cell.entry) not_gone) of;
  found = λ id cell of.
      is.found id cell
      (cell_along (λ i. cond (gone i) None (versions i)) versions id cell (was_there (gone cell.entry) (versions cell.entry) of.live.version of.live.begun ∙ sym of.live.begun) of);
}
