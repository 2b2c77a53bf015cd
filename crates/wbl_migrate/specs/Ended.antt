-- A version that has ended is moved to another entry and other lines, by hand: without a commit, and without a stamp of its own.
use Rattle.std.specs.Prelude.{◌≡◌, ◌⊎◌, ◌↔◌, ℕ, ◌+◌, ◌<◌, ◌≤◌, true, not, ◌&&◌, nat_eq, if◌then◌else◌, List, [], ◌∷◌, ◌++◌, Option, Some, None}
use Rattle.kv_types.specs.Keyspace.{Keyspace}
use Rattle.pmem.specs.Device.{State}
use Rattle.pmem.specs.Runs.{pairs_from, lines_from}
use Rattle.model.specs.declared.group.Put.{Put}
use Rattle.model.specs.declared.record.Record.{Record}
use Rattle.model.specs.Layout.{first_word}
use Rattle.model.specs.Group.{AreApart, Contents, IsPlaced, IsUnused, entries_of, without}
use Rattle.model.specs.Image.{Image, IsMapOf, Version, directory_room, entry_line, entry_word, first_extent_line, words_from}
use Rattle.wbl_engine.specs.Contents.{IsDurable, Keeps}

-- ---- what is stored

-- the words of the `count` lines from `line` on, copied to the lines from `to_line` on
abbrev pub extent_copy : Image → ℕ → ℕ → ℕ → List (ℕ × ℕ)
extent_copy image line to_line count = pairs_from (first_word to_line) (words_from image (first_word line) (first_word count))

-- the words of an entry after its begin, with another first line
abbrev pub words_after_begin : Image → ℕ → ℕ → List ℕ
words_after_begin image from to_line =
    image (entry_word from 1)
    ∷ image (entry_word from 2)
    ∷ to_line
    ∷ image (entry_word from 4)
    ∷ image (entry_word from 5)
    ∷ image (entry_word from 6)
    ∷ image (entry_word from 7)
    ∷ []

-- those words, copied to entry `to`
abbrev pub entry_copy : Image → ℕ → ℕ → ℕ → List (ℕ × ℕ)
entry_copy image from to to_line = pairs_from (entry_word to 1) (words_after_begin image from to_line)

-- the extent and the entry of a version, but for its begin
abbrev pub copy_pairs : Image → ℕ → ℕ → ℕ → List (ℕ × ℕ)
copy_pairs image from to to_line =
    extent_copy image (image (entry_word from 3)) to_line (image (entry_word from 4)) ++ entry_copy image from to to_line

-- the lines that they are stored to
abbrev pub copy_lines : Image → ℕ → ℕ → ℕ → List ℕ
copy_lines image from to to_line = lines_from to_line (image (entry_word from 4)) ++ entry_line to ∷ []

-- Both entries are in the room of the directory, and the lines that entry `from` names may be copied to `to_line`: those are behind the directory, and apart
-- from them.
pub record IsCopyable (lines : ℕ) (image : Image) (from to to_line : ℕ) : Type 0 where
  pub from_within : from < directory_room lines
  pub to_within : to < directory_room lines
  pub extent : image (entry_word from 3) + image (entry_word from 4) ≤ lines
  pub above : first_extent_line lines ≤ to_line
  pub within : to_line + image (entry_word from 4) ≤ lines
  pub apart : AreApart to_line (image (entry_word from 4)) (image (entry_word from 3)) (image (entry_word from 4))

-- ---- the contents

-- where the version is to lie
abbrev pub new_place : ℕ → ℕ → Version → Put
new_place to to_line version =
    record { id = version.id; value = version.value; entry = record { 0 = to }; extent = record { first_line = to_line; lines = version.lines } }

-- entry `from` holds this version, which has ended, and the new place is free
pub record IsMovable (contents : Contents) (from to to_line : ℕ) (version : Version) : Type 0 where
  pub from_within : from < entries_of contents
  pub held : contents.versions from ≡ Some version
  pub ended : version.is_ended ≡ true
  pub placed : IsPlaced (entries_of contents) contents.lines (new_place to to_line version)
  pub unused : IsUnused contents.versions contents.is_free (new_place to to_line version)
  pub empty : contents.versions to ≡ None

-- the version at another first line
abbrev pub at_line : ℕ → Option Version → Option Version
at_line to_line None = None
at_line to_line (Some version) = Some (record version { first_line = to_line })

-- the version is in both places
abbrev pub with_copy : ℕ → ℕ → ℕ → Contents → Contents
with_copy from to to_line contents =
    record contents {
      versions = λ i. if nat_eq i to then at_line to_line (contents.versions from) else contents.versions i;
      is_free = λ i. contents.is_free i && not (nat_eq i to);
    }

-- it is in the new place alone, and the old entry is free
abbrev pub after_move : ℕ → ℕ → ℕ → Contents → Contents
after_move from to to_line contents = without (λ i. nat_eq i from) (with_copy from to to_line contents)

-- the contents before the move, those with both copies, or those after it
abbrev pub KeepsMoving : ℕ → ℕ → ℕ → Contents → Image → Type 0
KeepsMoving from to to_line contents image =
    Keeps contents image ⊎ (Keeps (with_copy from to to_line contents) image ⊎ Keeps (after_move from to to_line contents) image)

-- the same keyspaces are their map
abbrev pub HaveOneMap : Contents → Contents → Type 0
HaveOneMap old new =
    (s : Keyspace) → IsMapOf old.versions (entries_of old) s ↔ IsMapOf new.versions (entries_of new) s

-- Each crash now leaves these contents, under this record, and one of their versions may be moved.
pub record IsMoving (current' : Record) (d : State) (contents : Contents) (from to to_line : ℕ) (version : Version) : Type 0 where
  pub current_is : contents.current ≡ current'
  pub lines_are : contents.lines ≡ d.lines
  pub durable : IsDurable d contents
  pub movable : IsMovable contents from to to_line version
