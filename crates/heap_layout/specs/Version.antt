-- What an entry holds under the record of its image (this project's profile).
use Rattle.std.specs.Prelude.{ℕ, ◌<◌, ◌≤◌, IsTrue, Option, Some, None}
use Rattle.heap_layout.specs.declared.entry.Entry.{Entry}
use Rattle.heap_layout.specs.Entry.{IsEntry}
use Rattle.model.specs.declared.record.Record.{Record}
use Rattle.model.specs.Image.{Image, Version, counts, entry_word}

-- the version that an entry holds: it is ended where its end counts
abbrev pub version_of : Record → Entry → Version
version_of r entry =
    record {
      id = entry.id;
      value = entry.value;
      position = entry.position;
      first_line = entry.extent.first_line;
      lines = entry.extent.lines;
      is_ended = counts r entry.end;
    }

abbrev pub version_if_read : Record → Option Entry → Option Version
version_if_read r None = None
version_if_read r (Some entry) = Some (version_of r entry)

-- Entry i breaks no rule under this record: its stamps were given out, and if its begin counts, it breaks no rule of entries and was made
-- at a position that the record has.
pub record IsUnder (r : Record) (lines' : ℕ) (image : Image) (i : ℕ) : Type 0 where
  pub begin : image (entry_word i 0) < r.cd
  pub end : image (entry_word i 1) < r.cd
  pub whole : IsTrue (counts r (image (entry_word i 0))) → IsEntry lines' image i
  pub position : IsTrue (counts r (image (entry_word i 0))) → image (entry_word i 2) ≤ r.position
