-- What has ended leaves the end of a directory, after the live versions have: by hand, version by version, with the same map under the same record.
use Rattle.std.specs.Prelude.{◌≡◌, ◌≢◌, ℕ, ◌≤◌, List, Some}
use Rattle.std.specs.List.{slice_get}
use Rattle.kv_types.specs.declared.place.EntryNo.{EntryNo}
use Rattle.pmem.specs.Device.{State}
use Rattle.heap_layout.specs.declared.entry.Entry.{Entry}
use Rattle.model.specs.declared.record.Record.{Record}
use Rattle.model.specs.Group.{Contents, IsConsistent}
use Rattle.model.specs.Image.{Version}
use Rattle.wbl_engine.specs.Contents.{IsDurable}
use Rattle.wbl_engine.specs.Lawful.{AreLawful}
use Rattle.wbl_migrate.specs.declared.moving.Place.{Place}
use Rattle.wbl_migrate.specs.Ended.{HaveOneMap}
use Rattle.wbl_migrate.specs.Moving.{AreFreeBut, IsReadOnce, entries_kept, place_at, place_read, version_read}

-- Each version lies in one of the places. From the next one on, what was read as ended is where it was read; and what lies in an entry that is not kept is
-- among that.
pub record AreLeaving (contents : Contents) (counted : List (EntryNo × Entry)) (gapped cleared : List EntryNo) (places : List Place) (next : ℕ) : Type 0 where
  pub lie : (i : ℕ) (version : Version) → contents.versions i ≡ Some version → (k : ℕ) × (slice_get places k ≡ Some (place_at i version))
  pub rest : (k : ℕ) (read : EntryNo × Entry) → next ≤ k → slice_get counted k ≡ Some read → read.1.end ≢ 0
      → (slice_get places k ≡ Some (place_read read)) × (contents.versions read.0.0 ≡ Some (version_read read.1))
  pub due : (i : ℕ) (version : Version) → entries_kept contents.lines ≤ i → contents.versions i ≡ Some version
      → (k : ℕ) × (read : EntryNo × Entry) × (next ≤ k) × (slice_get counted k ≡ Some read) × (read.0.0 ≡ i) × (read.1.end ≢ 0)
  pub once : IsReadOnce counted
  pub free : AreFreeBut contents gapped cleared

-- the same map under the same record
pub record MovesEnded (old new : Contents) : Type 0 where
  pub current : new.current ≡ old.current
  pub line_count : new.lines ≡ old.lines
  pub map : HaveOneMap old new
  pub lawful : AreLawful old → AreLawful new

-- Each crash of the device now leaves these contents, under this record. They obey the rules of an image.
pub record IsHeld (current' : Record) (d : State) (contents : Contents) : Type 0 where
  pub current_is : contents.current ≡ current'
  pub lines_are : contents.lines ≡ d.lines
  pub durable : IsDurable d contents
  pub consistent : IsConsistent contents
  pub lawful : AreLawful contents

-- no version lies in an entry that is not kept
abbrev pub IsEmptied : Contents → Type 0
IsEmptied contents = (i : ℕ) (version : Version) → entries_kept contents.lines ≤ i → contents.versions i ≡ Some version → ⊥

-- The device holds contents with the map of these, and a version lies in an entry that is not kept.
pub record HasOneLeft (current' : Record) (d : State) (old : Contents) : Type 0 where
  pub new : Contents
  pub stands : MovesEnded old new
  pub held : IsHeld current' d new
  pub left : ¬ IsEmptied new

-- The device holds contents with the map of these, and none does.
pub record HasNoneLeft (current' : Record) (d : State) (old : Contents) : Type 0 where
  pub new : Contents
  pub stands : MovesEnded old new
  pub held : IsHeld current' d new
  pub emptied : IsEmptied new

-- The device holds contents with the map of these, and what was read as ended before the next one has left the entries that are not kept.
pub record HasLeft (current' : Record) (d : State) (old : Contents) (counted : List (EntryNo × Entry)) (gapped cleared : List EntryNo) (places : List Place)
    (next : ℕ) : Type 0 where
  pub new : Contents
  pub stands : MovesEnded old new
  pub held : IsHeld current' d new
  pub leaving : AreLeaving new counted gapped cleared places next
