-- Versions are moved to other places: the parts that do it, the record after them, and the contents under that record.
use Rattle.std.specs.Prelude.{◌≡◌, ℕ, ◌+◌, ◌<◌, ◌≤◌, ◌⊎◌, false, not, ◌&&◌, List, [], ◌∷◌, length, Some}
use Rattle.std.specs.List.{AllByRecursion}
use Rattle.kv_types.specs.Keyspace.{Keyspace, IsKeyspace}
use Rattle.model.specs.declared.group.Part.{Part}
use Rattle.model.specs.declared.group.PlacedChange.TheVariants as placed
use Rattle.model.specs.declared.group.Put.{Put}
use Rattle.model.specs.declared.group.TheConstants.{MAX_PARTS}
use Rattle.model.specs.declared.image.TheConstants.{COUNTER_LIMIT, STAMP_WINDOW}
use Rattle.model.specs.declared.record.Record.{Record}
use Rattle.model.specs.Group.{AreAllApart, Contents, HasItsLines, IsPlaced, IsUnused, NamesEnded, Versions, entries_of, is_put_at, part_versions, parts_versions}
use Rattle.model.specs.Image.{IsMapOf, Version}
use Rattle.wbl_engine.specs.Stage.{puts_of_parts}

-- The part's one put makes again a version that is live: the same record and value, at the position of the part.
pub record MakesAgain (versions : Versions) (part : Part) : Type 0 where
  pub put : Put
  pub changes : part.changes.items ≡ placed.Put put ∷ []
  pub entry : ℕ
  pub version : Version
  pub held : versions entry ≡ Some version
  pub live : version.is_ended ≡ false
  pub id_is : version.id ≡ put.id
  pub value_is : version.value ≡ put.value
  pub position_is : version.position ≡ part.position

-- Each part makes again a version that is live at its turn, of this position or a lower one, and names the entry that this ends. So no two move what lies in one
-- entry.
abbrev pub AreMadeAgain : ℕ → Versions → List Part → Type 0
AreMadeAgain position versions [] = Unit {0}
AreMadeAgain position versions (part ∷ parts) =
    (part.position ≤ position) × MakesAgain versions part × NamesEnded versions part × AreMadeAgain position (part_versions versions part) parts

-- All that moving versions requires of the parts: the new places, all together, were free before, and are apart.
pub record IsRelocation (contents : Contents) (parts : List Part) : Type 0 where
  pub some : 0 < length parts
  pub few : length parts ≤ MAX_PARTS
  pub each : AreMadeAgain contents.current.position contents.versions parts
  pub placed : AllByRecursion (IsPlaced (entries_of contents) contents.lines) (puts_of_parts parts)
  pub fitting : AllByRecursion HasItsLines (puts_of_parts parts)
  pub unused : AllByRecursion (IsUnused contents.versions contents.is_free) (puts_of_parts parts)
  pub apart : AreAllApart (puts_of_parts parts)

-- the record after so many versions were moved: a stamp more for each, the same position
abbrev pub relocated_record : ℕ → Record → Record
relocated_record count r = record r { number = r.number + 1; cp = r.cp + count; cd = r.cp + count + 1 + STAMP_WINDOW }

-- the contents after the parts, each in turn
abbrev pub after_relocation : Contents → List Part → Contents
after_relocation contents parts =
    record {
      current = relocated_record (length parts) contents.current;
      lines = contents.lines;
      versions = parts_versions contents.versions parts;
      is_free = λ i. contents.is_free i && not (is_put_at i (puts_of_parts parts));
    }

-- a counter of that record would reach the limit
abbrev pub ExhaustsRelocation : ℕ → Record → Type 0
ExhaustsRelocation count r = (COUNTER_LIMIT ≤ (relocated_record count r).cd) ⊎ (COUNTER_LIMIT ≤ (relocated_record count r).number)

-- the live versions make up the keyspace that they made up before
abbrev pub KeepsKeyspace : Contents → Contents → Type 0
KeepsKeyspace old new =
    (s : Keyspace) → IsKeyspace s → IsMapOf old.versions (entries_of old) s → IsMapOf new.versions (entries_of new) s
