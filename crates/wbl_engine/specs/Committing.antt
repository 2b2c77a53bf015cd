-- Parts that commit under one record: what is required of them, that record, and the contents after them.
use Rattle.std.specs.Prelude.{ℕ, ◌+◌, ◌≤◌, not, ◌&&◌, List, [], ◌∷◌, length}
use Rattle.std.specs.List.{AllByRecursion}
use Rattle.model.specs.declared.group.Part.{Part}
use Rattle.model.specs.declared.group.TheConstants.{MAX_PARTS}
use Rattle.model.specs.declared.image.TheConstants.{STAMP_WINDOW}
use Rattle.model.specs.declared.record.Record.{Record}
use Rattle.model.specs.Group.{AreAllApart, Contents, HasItsLines, IsPlaced, IsUnused, NamesEnded, Versions, entries_of, is_put_at, part_versions, parts_versions}
use Rattle.wbl_engine.specs.Stage.{puts_of_parts}

-- each part names what it ended
abbrev pub AreNamed : Versions → List Part → Type 0
AreNamed versions [] = Unit {0}
AreNamed versions (part ∷ parts) = NamesEnded versions part × AreNamed (part_versions versions part) parts

-- all that is required of parts that commit under one record, which bears this position
pub record AreCommittable (contents : Contents) (parts : List Part) (position : ℕ) : Type 0 where
  pub up : contents.current.position ≤ position
  pub made : AllByRecursion (λ part. part.position ≤ position) parts
  pub few : length parts ≤ MAX_PARTS
  pub names : AreNamed contents.versions parts
  pub placed : AllByRecursion (IsPlaced (entries_of contents) contents.lines) (puts_of_parts parts)
  pub fitting : AllByRecursion HasItsLines (puts_of_parts parts)
  pub unused : AllByRecursion (IsUnused contents.versions contents.is_free) (puts_of_parts parts)
  pub apart : AreAllApart (puts_of_parts parts)

-- the record after parts, with this position, this epoch and this floor: each part takes one stamp
abbrev pub record_after : Record → List Part → ℕ → ℕ → ℕ → Record
record_after r parts position epoch floor =
    record {
      layout = r.layout;
      number = r.number + 1;
      position = position;
      cp = r.cp + length parts;
      cd = r.cp + length parts + 1 + STAMP_WINDOW;
      epoch = epoch;
      role = r.role;
      gaps = r.gaps;
      floor = floor;
    }

-- the contents under that record
abbrev pub after_parts : Contents → List Part → ℕ → ℕ → ℕ → Contents
after_parts contents parts position epoch floor =
    record {
      current = record_after contents.current parts position epoch floor;
      lines = contents.lines;
      versions = parts_versions contents.versions parts;
      is_free = λ i. contents.is_free i && not (is_put_at i (puts_of_parts parts));
    }

-- the record with this floor, and the contents under it
abbrev pub at_floor : ℕ → Record → Record
at_floor floor r = record r { floor = floor }

abbrev pub under_floor : ℕ → Contents → Contents
under_floor floor contents = record contents { current = at_floor floor contents.current }
