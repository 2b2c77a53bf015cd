-- A new image, and what a crash leaves while it is made.
use Rattle.std.specs.Prelude.{◌≢◌, ◌⊎◌, ℕ, ◌+◌, ◌-◌, List, [], ◌∷◌, ◌++◌, replicate, nat_lt, None}
use Rattle.pmem.specs.Device.{Word}
use Rattle.pmem.specs.Crash.{IsImage}
use Rattle.pmem.specs.Runs.{pairs_from}
use Rattle.model.specs.declared.image.TheConstants.{STAMP_WINDOW}
use Rattle.model.specs.declared.layout.Layout.{Layout}
use Rattle.model.specs.declared.layout.TheConstants.{LAYOUT}
use Rattle.model.specs.declared.record.Record.{Record}
use Rattle.model.specs.declared.record.Role.{Role}
use Rattle.model.specs.Layout.{first_word, version}
use Rattle.model.specs.Image.{Image, magic_number, directory_room, entries_of_lines, first_extent_line}
use Rattle.model.specs.Group.{Contents}
use Rattle.wbl_record.specs.Record.{body_pairs, root_pairs}
use Rattle.wbl_engine.specs.Contents.{Keeps}

-- the record of a new image
abbrev pub first_record : Role → ℕ → Record
first_record role epoch =
    record {
      layout = LAYOUT;
      number = 1;
      position = 0;
      cp = 0;
      cd = 1 + STAMP_WINDOW;
      epoch = epoch;
      role = role;
      gaps = record { items = [] };
      floor = 0;
    }

-- the contents of a new image: no version, and each entry of the directory free
abbrev pub new_contents : ℕ → Role → ℕ → Contents
new_contents lines role epoch =
    record {
      current = first_record role epoch;
      lines = lines;
      versions = λ i. None;
      is_free = λ i. nat_lt i (entries_of_lines LAYOUT lines);
    }

-- the superblock after the magic, up to the root
abbrev pub superblock_words : Layout → ℕ → List ℕ
superblock_words layout lines = version layout ∷ lines ∷ directory_room lines ∷ []

-- how many words are between the magic and the extents
abbrev pub words_behind_magic : ℕ → ℕ
words_behind_magic lines = first_word (first_extent_line lines) - 1

-- all words of a new image but the magic, up to the extents: zeros, and then over some of them the superblock, the first record, and the root, which names it
unfoldable pub new_pairs : ℕ → Record → List (ℕ × ℕ)
new_pairs lines first =
    pairs_from 1 (replicate (words_behind_magic lines) 0) ++ pairs_from 1 (superblock_words first.layout lines) ++ body_pairs lines first ++ root_pairs first

-- What a crash leaves of a device of these words that is being formatted: an image from before, the new one whole, or one without the magic.
abbrev pub IsFormatting : (ℕ → Word) → ℕ → Role → ℕ → Image → Type 0
IsFormatting words lines role epoch image = IsImage words image ⊎ (Keeps (new_contents lines role epoch) image ⊎ (image 0 ≢ magic_number))
