-- What a newcomer holds of a copy between calls.
use Rattle.std.specs.Prelude.{◌≡◌, ℕ, ◌<◌, List, [], map, IsTrue, Option, None, Some}
use Rattle.kv_types.specs.declared.record_id.RecordId.{RecordId}
use Rattle.extent_heap.specs.Room.{Room}
use Rattle.model.specs.declared.group.Put.{Put}
use Rattle.model.specs.declared.group.PlacedChange.TheVariants as placed
use Rattle.model.specs.declared.record.Role.TheVariants.{Newcomer}
use Rattle.model.specs.Group.{Contents, Versions, entries_of}
use Rattle.model.specs.Image.{Version}
use Rattle.mv_keyspace.specs.Table.{Table, place_all}
use Rattle.placing.specs.Place.{TakesPlaces}
use Rattle.placing.specs.Read.{LiesIn}
use Rattle.wbl_engine.specs.Copying.{AreUpTo, IsCopy, after_copy}
use Rattle.standby.specs.declared.copies.Half.{Half}
use Rattle.standby.specs.Following.{Follows}

-- The staged versions are of the half copy: made at its position, and none of their records comes after its last one. Without a half copy nothing is staged.
abbrev pub AreOfHalf : Option Half → Versions → Type 0
AreOfHalf None staged = (i : ℕ) → staged i ≡ None
AreOfHalf (Some half) staged =
    (0 < half.parts) × ((i : ℕ) (version : Version) → staged i ≡ Some version → version.position ≡ half.position) × AreUpTo half.last staged

-- The image is a newcomer's and holds nothing. What is staged on it is the half copy, of which the table has each record: once it counted, it would be a copy
-- that the table and the heap follow.
pub record Gathers (contents : Contents) (staged : Versions) (table : Table) (room : Room) (half : Option Half) : Type 0 where
  pub newcomer : contents.current.role ≡ Newcomer
  pub empty : (i : ℕ) → contents.versions i ≡ None
  pub of_half : AreOfHalf half staged
  pub copy : IsCopy (entries_of contents) staged
  -- to the contents the entries of what is staged are free
  pub is_free : (i : ℕ) (version : Version) → staged i ≡ Some version → IsTrue (contents.is_free i)
  pub placed : (i : ℕ) (version : Version) → staged i ≡ Some version → LiesIn contents.lines version
  pub follows : Follows (after_copy contents staged 0) table room []

-- the half copy, if there is one, is of this position
abbrev pub IsAt : Option Half → ℕ → Type 0
IsAt None position = Unit {0}
IsAt (Some half) position = position ≡ half.position

-- a put without its place
abbrev pub told_of : Put → RecordId × List ℕ
told_of put = (put.id, put.value)

-- Each put in turn has its place from the heap, and the table has their records, made at this position.
pub record PlacesPuts (table : Table) (room : Room) (position : ℕ) (told : List (RecordId × List ℕ)) (puts : List Put) (after : Table) (left : Room) : Type 0 where
  pub these : map told_of puts ≡ told
  pub places : TakesPlaces room puts left
  pub after_is : after ≡ place_all position table (map placed.Put puts)
