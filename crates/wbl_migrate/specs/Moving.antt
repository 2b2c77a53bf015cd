-- Room at the end of a directory: gaps are cleared and live versions are moved away from there, and each image that a crash may leave has the same map at
-- the same position.
use Rattle.std.specs.Prelude.{◌≡◌, ◌≢◌, ◌⊎◌, ℕ, ◌+◌, ◌<◌, ◌≤◌, ◌==◌, Bool, false, true, not, ◌&&◌, ◌||◌, nat_eq, nat_le, IsTrue, List, [], ◌∷◌, None, Some, Result, IsErrOf}
use Rattle.std.specs.List.{slice_get}
use Rattle.kv_types.specs.declared.place.EntryNo.{EntryNo}
use Rattle.kv_types.specs.declared.place.Extent.{Extent}
use Rattle.kv_types.specs.declared.refusal.Refusal.{Refusal}
use Rattle.kv_types.specs.declared.refusal.Refusal.TheVariants.{Fault}
use Rattle.pmem.specs.Device.{State}
use Rattle.pmem.specs.Runs.{LeavesOnly}
use Rattle.heap_layout.specs.declared.entry.Entry.{Entry}
use Rattle.model.specs.declared.group.Put.{Put}
use Rattle.model.specs.declared.layout.Layout.TheVariants.{Version2}
use Rattle.model.specs.Group.{Contents, HasItsLines, IsConsistent, IsPlaced, IsUnused, entries_of, is_listed, version_of_put}
use Rattle.model.specs.Image.{Image, Version, entries_of_lines, first_extent_line}
use Rattle.wbl_engine.specs.Contents.{IsDurable, Keeps}
use Rattle.wbl_engine.specs.Freeing.{KeepsMap}
use Rattle.wbl_engine.specs.Lawful.{AreLawful}
use Rattle.wbl_engine.specs.Relocating.{KeepsKeyspace}
use Rattle.wbl_migrate.specs.declared.moving.Place.{Place}

-- ---- what stays

-- The same versions stand, under a record of the same layout, position, epoch and role. So they make up the map that they made up before.
pub record KeepsAllVersions (old new : Contents) : Type 0 where
  pub layout : new.current.layout ≡ old.current.layout
  pub position : new.current.position ≡ old.current.position
  pub epoch : new.current.epoch ≡ old.current.epoch
  pub role : new.current.role ≡ old.current.role
  pub line_count : new.lines ≡ old.lines
  pub versions : (i : ℕ) → new.versions i ≡ old.versions i
  pub map : KeepsMap old new
  pub lawful : AreLawful old → AreLawful new

-- The same map stands, under a record of the same layout, position, epoch, role and gaps. Live versions may lie elsewhere; each version that had ended is where
-- it was.
pub record MovesLive (old new : Contents) : Type 0 where
  pub layout : new.current.layout ≡ old.current.layout
  pub position : new.current.position ≡ old.current.position
  pub epoch : new.current.epoch ≡ old.current.epoch
  pub role : new.current.role ≡ old.current.role
  pub line_count : new.lines ≡ old.lines
  pub gaps : new.current.gaps.items ≡ old.current.gaps.items
  pub map : KeepsKeyspace old new
  pub ended : (i : ℕ) (version : Version) → old.versions i ≡ Some version → version.is_ended ≡ true → new.versions i ≡ Some version
  pub lawful : AreLawful old → AreLawful new

-- The image holds contents that stand so to the old ones.
pub record HoldsBy (R : Contents → Contents → Type 0) (old : Contents) (image : Image) : Type 0 where
  pub new : Contents
  pub stands : R old new
  pub consistent : IsConsistent old → IsConsistent new
  pub keeps : Keeps new image

-- ---- steps

module _ {E : Type 0} (device : E → State) (contents : E → Contents) (is_faulted : E → Bool) where
  -- No fence of the engine has failed, all that it contains is durable, and its contents obey the rules of an image.
  pub record IsReady (engine : E) : Type 0 where
    pub sound : is_faulted engine ≡ false
    pub durable : IsDurable (device engine) (contents engine)
    pub consistent : IsConsistent (contents engine)
    pub lawful : AreLawful (contents engine)

  -- What becomes of an engine, whatever a call answers: its contents stand so to the old ones, and so do those of each image that a crash may leave at any
  -- moment of the call. Unless a fence failed, it may go on.
  pub record IsStep {X : Type 0} (R : Contents → Contents → Type 0) (old : E) (result : Result X Refusal) (new : E) : Type 0 where
    pub stands : R (contents old) (contents new)
    pub ready : ¬ IsErrOf result Fault → IsReady new
    pub failures : ¬ IsErrOf result Fault → (device new).failures ≡ (device old).failures
    pub fault : IsErrOf result Fault → (is_faulted new ≡ true) × ((device old).failures < (device new).failures)
    pub asked_moment : (device new).kept ≡ (device old).kept
    pub moments : LeavesOnly (device old) (device new) (HoldsBy R (contents old))

-- ---- one version

-- what an entry says that was read of an image: it is ended where its end is not 0
abbrev pub version_read : Entry → Version
version_read entry =
    record {
      id = entry.id;
      value = entry.value;
      position = entry.position;
      first_line = entry.extent.first_line;
      lines = entry.extent.lines;
      is_ended = not (entry.end == 0);
    }

-- the version that was read, written again in this place
abbrev pub put_again : Entry → Place → Put
put_again entry place = record { id = entry.id; value = entry.value; entry = place.entry; extent = place.extent }

-- The place can take the version: its entry is free, and its lines, which are as many as the version takes, are in no other.
pub record IsRoomFor (contents : Contents) (entry : Entry) (place : Place) : Type 0 where
  pub placed : IsPlaced (entries_of contents) contents.lines (put_again entry place)
  pub fitting : HasItsLines (put_again entry place)
  pub unused : IsUnused contents.versions contents.is_free (put_again entry place)

-- The version has left its entry, which is free, and is in its place, with its record, its value and its position. Nothing else changed.
pub record HasMoved (old : Contents) (from : EntryNo) (entry : Entry) (place : Place) (new : Contents) : Type 0 where
  pub gone : new.versions from.0 ≡ None
  pub freed : new.is_free from.0 ≡ true
  pub made : new.versions place.entry.0 ≡ Some (version_of_put entry.position (put_again entry place))
  pub taken : new.is_free place.entry.0 ≡ false
  pub others : (i : ℕ) → i ≢ from.0 → i ≢ place.entry.0 → new.versions i ≡ old.versions i
  pub others_free : (i : ℕ) → i ≢ from.0 → i ≢ place.entry.0 → new.is_free i ≡ old.is_free i

-- ---- places

-- how many entries the directory of an image of `lines` lines has in version 2, behind which its record slots stand
abbrev pub entries_kept : ℕ → ℕ
entries_kept lines = entries_of_lines Version2 lines

-- no line is in both
abbrev pub are_apart : Extent → Extent → Bool
are_apart a b = nat_le (a.first_line + a.lines) b.first_line || nat_le (b.first_line + b.lines) a.first_line

-- the two share neither their entry nor a line
abbrev pub are_two : Place → Place → Bool
are_two place other = not (nat_eq place.entry.0 other.entry.0) && are_apart place.extent other.extent

-- it shares neither with any of the places
abbrev pub is_clear : Place → List Place → Bool
is_clear place [] = true
is_clear place (other ∷ places) = are_two place other && is_clear place places

-- In an image of `lines` lines a version may go to this place: its entry is one that is kept, and was not begun in a gap that was not cleared; its lines are
-- among those of the extents; and none of the other places has either.
pub record IsOpen (lines : ℕ) (places : List Place) (gapped cleared : List EntryNo) (place : Place) : Type 0 where
  pub entry : place.entry.0 < entries_kept lines
  pub begun : (is_listed place.entry.0 gapped ≡ false) ⊎ IsTrue (is_listed place.entry.0 cleared)
  pub above : first_extent_line lines ≤ place.extent.first_line
  pub within : place.extent.first_line + place.extent.lines ≤ lines
  pub clear : IsTrue (is_clear place places)

-- ---- what was read of the image

-- where a version lies that was read, and where one lies that an entry has
abbrev pub place_read : EntryNo × Entry → Place
place_read read = record { entry = read.0; extent = read.1.extent }

abbrev pub place_at : ℕ → Version → Place
place_at i version = record { entry = record { 0 = i }; extent = record { first_line = version.first_line; lines = version.lines } }

-- no entry is read twice
abbrev pub IsReadOnce : List (EntryNo × Entry) → Type 0
IsReadOnce counted =
    (j k : ℕ) (x y : EntryNo × Entry) → slice_get counted j ≡ Some x → slice_get counted k ≡ Some y → x.0.0 ≡ y.0.0 → j ≡ k

-- an entry without a version is free where it was not begun in a gap, and where it was and the gap is cleared
abbrev pub AreFreeBut : Contents → List EntryNo → List EntryNo → Type 0
AreFreeBut contents gapped cleared =
    (i : ℕ) → i < entries_of contents → contents.versions i ≡ None → (is_listed i gapped ≡ false) ⊎ IsTrue (is_listed i cleared)
    → contents.is_free i ≡ true

-- The first list has each version of the contents with its entry, once; and the second has each entry that was begun in a gap, of which those in the third
-- are free by now.
pub record AreKnown (contents : Contents) (counted : List (EntryNo × Entry)) (gapped cleared : List EntryNo) : Type 0 where
  pub held : (k : ℕ) (read : EntryNo × Entry) → slice_get counted k ≡ Some read → contents.versions read.0.0 ≡ Some (version_read read.1)
  pub found : (i : ℕ) (version : Version) → contents.versions i ≡ Some version
      → (k : ℕ) × (read : EntryNo × Entry) × (slice_get counted k ≡ Some read) × (read.0.0 ≡ i)
  pub once : IsReadOnce counted
  pub free : AreFreeBut contents gapped cleared

-- The live versions that were read before the next one have left the entries that are not kept, and each version lies in its place. What was read as ended is
-- where it was read, and what lies ended in an entry that is not kept is among that.
pub record AreMoved (contents : Contents) (counted : List (EntryNo × Entry)) (gapped cleared : List EntryNo) (places : List Place) (next : ℕ) : Type 0 where
  pub lie : (i : ℕ) (version : Version) → contents.versions i ≡ Some version → (k : ℕ) × (slice_get places k ≡ Some (place_at i version))
  pub rest : (k : ℕ) (read : EntryNo × Entry) → next ≤ k → slice_get counted k ≡ Some read
      → (slice_get places k ≡ Some (place_read read)) × (contents.versions read.0.0 ≡ Some (version_read read.1))
  pub due : (i : ℕ) (version : Version) → entries_kept contents.lines ≤ i → contents.versions i ≡ Some version → version.is_ended ≡ false
      → (k : ℕ) × (read : EntryNo × Entry) × (next ≤ k) × (slice_get counted k ≡ Some read) × (read.0.0 ≡ i)
  pub ended : (k : ℕ) (read : EntryNo × Entry) → slice_get counted k ≡ Some read → read.1.end ≢ 0
      → (slice_get places k ≡ Some (place_read read)) × (contents.versions read.0.0 ≡ Some (version_read read.1))
  pub stay : (i : ℕ) (version : Version) → entries_kept contents.lines ≤ i → contents.versions i ≡ Some version → version.is_ended ≡ true
      → (k : ℕ) × (read : EntryNo × Entry) × (slice_get counted k ≡ Some read) × (read.0.0 ≡ i) × (read.1.end ≢ 0)
  pub once : IsReadOnce counted
  pub free : AreFreeBut contents gapped cleared

-- a live version is in an entry that is not kept
pub record IsLeft (contents : Contents) : Type 0 where
  pub entry : ℕ
  pub version : Version
  pub beyond : entries_kept contents.lines ≤ entry
  pub held : contents.versions entry ≡ Some version
  pub live : version.is_ended ≡ false
