-- What `status` tells of an image.
use Rattle.std.specs.Prelude.{◌≡◌, ℕ, ◌-◌, List, [], ◌∷◌, length, codes}
use Rattle.std.specs.List.{concat}
use Rattle.heap_layout.specs.Versions.{counted_below, gapped_below, live_in}
use Rattle.model.specs.Image.{Image, entries_of_lines}
use Rattle.wbl_engine.specs.Lawful.{IsUndamaged}
use Rattle.images.specs.Pair.{pair_in}
use Rattle.images.specs.Printed.{number_line, role_line}
use Rattle.images.specs.declared.reading.Reading.{Reading}

-- An undamaged image of so many lines was read: its record, its versions under that, and the number of its pair.
pub record IsReading (lines' : ℕ) (image : Image) (reading : Reading) : Type 0 where
  pub undamaged : IsUndamaged lines' reading.current image
  pub counted : reading.versions.counted.items ≡ counted_below reading.current image (entries_of_lines reading.current.layout lines')
  pub gapped : reading.versions.gapped.items ≡ gapped_below reading.current image (entries_of_lines reading.current.layout lines')
  pub lines : reading.lines ≡ lines'
  pub pair : reading.pair ≡ pair_in image

-- The record, with the number of the pair; how many versions count and how many of these have ended; how many entries a commit that did not come to its end left, of how many; how
-- many lines are taken of how many; and the gaps.
abbrev pub status_text : Reading → (taken room : ℕ) → List ℕ
status_text reading taken room =
    concat
    (role_line reading.current.role
    ∷ number_line (codes "epoch") reading.current.epoch
    ∷ number_line (codes "pair") reading.pair
    ∷ number_line (codes "position") reading.current.position
    ∷ number_line (codes "versions") (length reading.versions.counted.items)
    ∷ number_line (codes "ended") (length reading.versions.counted.items - length (live_in reading.versions.counted.items))
    ∷ number_line (codes "cut") (length reading.versions.gapped.items)
    ∷ number_line (codes "entries") (entries_of_lines reading.current.layout reading.lines)
    ∷ number_line (codes "lines") taken
    ∷ number_line (codes "room") room
    ∷ number_line (codes "gaps") (length reading.current.gaps.items)
    ∷ [])
