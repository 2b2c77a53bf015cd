-- What the subcommands print.
use Rattle.std.specs.Prelude.{ℕ, Option, List, [], ◌∷◌, ◌++◌, length, codes}
use Rattle.std.specs.List.{concat, flat_map}
use Rattle.std.specs.Fmt.{decimal}
use Rattle.std.specs.Io.KnownBytes.{Appends}
use Rattle.kv_types.specs.Keyspace.{Keyspace}
use Rattle.pmem.specs.Device.{State}
use Rattle.pmem.specs.Crash.{image_of}
use Rattle.model.specs.declared.layout.Layout.TheVariants.{Version2}
use Rattle.model.specs.declared.layout.TheConstants.{LAYOUT}
use Rattle.model.specs.Layout.{version}
use Rattle.model.specs.declared.record.Gap.{Gap}
use Rattle.model.specs.declared.record.Role.{Role}
use Rattle.model.specs.declared.record.Role.TheVariants.{Newcomer, Primary, Standby}
use Rattle.model.specs.declared.record.Record.{Record}
use Rattle.model.specs.Group.{Contents}
use Rattle.model.specs.Image.{Image, entries_of_lines}
use Rattle.wbl_engine.specs.Contents.{IsDurable, Same}
use Rattle.wbl_engine.specs.Inspecting.{live_below}
use Rattle.wbl_engine.specs.Lawful.{IsUndamaged}
use Rattle.wbl_engine.specs.Promoting.{promoted}
use Rattle.wbl_engine.specs.Restarting.{IsReopened}
use Rattle.wbl_migrate.specs.Migrating.{IsMigratable, IsMigrated}
use Rattle.wbl_migrate.specs.Steps.{Leaves}
use Rattle.images.specs.Pair.{pair_in}
use Rattle.images.specs.Told.{newline}

-- after an image of so many lines was formatted
abbrev pub formatted_text : ℕ → List ℕ
formatted_text lines = codes "formatted " ++ decimal lines ++ codes " lines, " ++ decimal (entries_of_lines LAYOUT lines) ++ codes " entries" ++ newline

-- after an image was given a journal
abbrev pub journaled_text : List ℕ
journaled_text = codes "has a journal" ++ newline

-- after the journal of an image was taken away
abbrev pub settled_text : List ℕ
settled_text = codes "has no journal" ++ newline

-- after an image was promoted
abbrev pub promoted_text : ℕ → List ℕ
promoted_text epoch = codes "promoted to epoch " ++ decimal epoch ++ newline

-- a line of a word and a number
abbrev pub number_line : List ℕ → ℕ → List ℕ
number_line word number = word ++ codes " " ++ decimal number ++ newline

abbrev pub role_line : Role → List ℕ
role_line Primary = codes "role primary" ++ newline
role_line Standby = codes "role standby" ++ newline
role_line Newcomer = codes "role newcomer" ++ newline

abbrev pub gap_line : Gap → List ℕ
gap_line gap = codes "gap " ++ decimal gap.first ++ codes " " ++ decimal gap.last ++ newline

-- a line for each gap
abbrev pub gap_lines : List Gap → List ℕ
gap_lines gaps = flat_map gap_line gaps

-- the version of an image, its record, the number of its pair, and how many of its entries are live
abbrev pub image_text : Record → (pair live : ℕ) → List ℕ
image_text r pair live =
    concat
    (number_line (codes "version") (version r.layout)
    ∷ number_line (codes "record") r.number
    ∷ number_line (codes "position") r.position
    ∷ number_line (codes "cp") r.cp
    ∷ number_line (codes "cd") r.cd
    ∷ number_line (codes "epoch") r.epoch
    ∷ role_line r.role
    ∷ number_line (codes "floor") r.floor
    ∷ number_line (codes "pair") pair
    ∷ number_line (codes "gaps") (length r.gaps.items)
    ∷ gap_lines r.gaps.items
    ∷ number_line (codes "live") live
    ∷ [])

-- An undamaged image of so many lines was told of: its version, its record, the number of its pair, and how many of its entries are live.
pub record TellsImage (lines : ℕ) (image : Image) (before after : Option (List ℕ)) : Type 0 where
  pub current : Record
  pub undamaged : IsUndamaged lines current image
  pub told : Appends before after (image_text current (pair_in image) (live_below current image (entries_of_lines current.layout lines)))

-- how many entries an image has that was migrated
abbrev pub migrated_text : ℕ → List ℕ
migrated_text lines = codes "migrated to version 2, " ++ decimal (entries_of_lines Version2 lines) ++ codes " entries" ++ newline

-- An image that could be migrated, if it was not of version 2 before, is of version 2, with its map, its position, epoch and role, and its position as the floor;
-- one that was has its record still; and how many entries it has is told.
pub record TellsMigration (old new : State) (before after : Option (List ℕ)) : Type 0 where
  pub migrated : (r : Record) (s : Keyspace) → IsMigratable old.lines r s (image_of old.words) → Leaves new (IsMigrated old.lines r s)
  pub told : Appends before after (migrated_text old.lines)

-- An undamaged image of so many lines was a standby's. It was opened again, and what it held then each crash leaves now under a primary's record of the
-- next epoch, which is told.
pub record TellsPromotion (lines' : ℕ) (image : Image) (device : State) (before after : Option (List ℕ)) : Type 0 where
  pub opened : Contents
  pub reopened : IsReopened lines' image Standby opened
  pub contents : Contents
  pub promotes : Same (promoted opened) contents
  pub durable : IsDurable device contents
  pub told : Appends before after (promoted_text contents.current.epoch)
