-- Contents that obey the rules of an image, and images that break none of them.
use Rattle.std.specs.Prelude.{◌≡◌, ◌≢◌, ℕ, ◌≤◌, Some, None}
use Rattle.kv_types.specs.Keyspace.{Keyspace, IsKeyspace}
use Rattle.heap_layout.specs.Versions.{AreVersions}
use Rattle.model.specs.declared.image.TheConstants.{MIN_LINES, MAX_LINES}
use Rattle.model.specs.declared.record.Record.{Record}
use Rattle.model.specs.declared.record.Role.TheVariants.{Newcomer}
use Rattle.model.specs.Group.{AreApart, Contents, entries_of}
use Rattle.model.specs.Image.{Image, HasSuperblock, IsMapOf, Version}
use Rattle.wbl_record.specs.Current.{IsCurrent, IsLawful}

-- The record obeys its rules, no two versions have a line in common, the live ones make up a keyspace, and a newcomer has none.
pub record AreLawful (contents : Contents) : Type 0 where
  pub many : MIN_LINES ≤ contents.lines
  pub few : contents.lines ≤ MAX_LINES
  pub current : IsLawful contents.current
  pub apart : (i j : ℕ) (v w : Version) → i ≢ j → contents.versions i ≡ Some v → contents.versions j ≡ Some w
      → AreApart v.first_line v.lines w.first_line w.lines
  pub keyspace : Keyspace
  pub lawful : IsKeyspace keyspace
  pub map : IsMapOf contents.versions (entries_of contents) keyspace
  pub uncopied : contents.current.role ≡ Newcomer → (i : ℕ) → contents.versions i ≡ None

-- The image breaks no rule of the format: this is its record, and each entry obeys its rules under it.
pub record IsUndamaged (lines' : ℕ) (r : Record) (image : Image) : Type 0 where
  pub superblock : HasSuperblock r.layout lines' image
  pub current : IsCurrent lines' image r
  pub versions : AreVersions r lines' image
