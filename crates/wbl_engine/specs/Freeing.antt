-- What is left of contents when versions that have ended are freed, and when a gap is cleared.
pub use Rattle.model.specs.Group.{AreEnded, after_free, extent_of, extents_of, is_listed, without}
use Rattle.std.specs.Prelude.{◌≡◌, ℕ, ◌+◌, ◌<◌, ◌⊎◌, ◌||◌, Bool, false, nat_eq, IsTrue, List, drop, map, None}
use Rattle.std.specs.List.{IsDistinct}
use Rattle.kv_types.specs.Keyspace.{Keyspace}
use Rattle.kv_types.specs.declared.place.EntryNo.{EntryNo}
use Rattle.model.specs.declared.record.Record.{Record}
use Rattle.model.specs.Group.{Contents, entries_of}
use Rattle.model.specs.Image.{Image, IsMapOf}
use Rattle.wbl_engine.specs.Contents.{Keeps}

-- the image holds what is left where some of the entries are freed
abbrev pub KeepsWithoutSome : List EntryNo → Contents → Image → Type 0
KeepsWithoutSome entries contents image =
    (gone : ℕ → Bool) × ((i : ℕ) → IsTrue (gone i) → IsTrue (is_listed i entries)) × Keeps (without gone contents) image

-- the image holds what is left where some of the entries are freed, or all of these contents
abbrev pub KeepsFreedOr : List EntryNo → Contents → Contents → Image → Type 0
KeepsFreedOr entries old new image = KeepsWithoutSome entries old image ⊎ Keeps new image

-- The image holds the contents from before, or what is left of these, which are the same under a record with the floor, where some of the entries are freed:
-- none is freed before that record is durable.
abbrev pub KeepsFreed : List EntryNo → Contents → Contents → Image → Type 0
KeepsFreed entries old floored image = Keeps old image ⊎ KeepsWithoutSome entries floored image

-- the live versions make up the map that they made up before
abbrev pub KeepsMap : Contents → Contents → Type 0
KeepsMap old new =
    (s : Keyspace) → IsMapOf old.versions (entries_of old) s → IsMapOf new.versions (entries_of new) s

-- ---- gaps

-- the record after the oldest gap is cleared
abbrev pub record_after_clearing : Record → Record
record_after_clearing r = record r { number = r.number + 1; gaps = record { items = drop 1 r.gaps.items } }

-- the contents under that record
abbrev pub cleared_contents : Contents → Contents
cleared_contents contents = record contents { current = record_after_clearing contents.current }

-- The oldest gap is cleared: no version changes, and the entries that were begun in it, each listed once, are free.
pub record Clears (old : Contents) (cleared : List EntryNo) (new : Contents) : Type 0 where
  pub current : new.current ≡ record_after_clearing old.current
  pub lines_are : new.lines ≡ old.lines
  pub versions : (i : ℕ) → new.versions i ≡ old.versions i
  pub is_free : (i : ℕ) → new.is_free i ≡ (old.is_free i || is_listed i cleared)
  -- each of them is in the directory, and none was free, or held a version
  pub within : (i : ℕ) → IsTrue (is_listed i cleared) → i < entries_of old
  pub were_not_free : (i : ℕ) → IsTrue (is_listed i cleared) → old.is_free i ≡ false
  pub held_none : (i : ℕ) → IsTrue (is_listed i cleared) → old.versions i ≡ None
  pub once : IsDistinct nat_eq (map (λ entry. entry.0) cleared)

-- The record and the versions are as before, and no entry that was free is in use.
pub record KeepsVersions (old new : Contents) : Type 0 where
  pub current : new.current ≡ old.current
  pub lines_are : new.lines ≡ old.lines
  pub versions : (i : ℕ) → new.versions i ≡ old.versions i
  pub is_free : (i : ℕ) → IsTrue (old.is_free i) → IsTrue (new.is_free i)
