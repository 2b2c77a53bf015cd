-- The rules of a record (this project's profile), and the record of an image that obeys them.
use Rattle.std.specs.Prelude.{◌≡◌, ℕ, ◌+◌, ◌<◌, ◌≤◌, List, [], ◌∷◌, length}
use Rattle.model.specs.declared.image.TheConstants.{COUNTER_LIMIT, STAMP_WINDOW}
use Rattle.model.specs.declared.record.Gap.{Gap}
use Rattle.model.specs.declared.record.Record.{Record}
use Rattle.model.specs.declared.record.Role.TheVariants.{Newcomer}
use Rattle.model.specs.Layout.{max_gaps, version}
use Rattle.model.specs.Image.{Image, HasRecord}

-- The gaps rise, each has at least one stamp, no two have one in common, and all their stamps are above `low` and below `cp`.
abbrev pub AreGaps : ℕ → List Gap → ℕ → Type 0
AreGaps low [] cp = Unit {0}
AreGaps low (gap ∷ gaps) cp = (low < gap.first) × (gap.first ≤ gap.last) × (gap.last < cp) × AreGaps gap.last gaps cp

-- the record obeys its rules
pub record IsLawful (r : Record) : Type 0 where
  pub some : 0 < r.number
  pub number : r.number < COUNTER_LIMIT
  pub position : r.position < COUNTER_LIMIT
  -- all stamps that are given out before the next record are below `cd`
  pub limit : r.cd ≡ r.cp + 1 + STAMP_WINDOW
  pub room : r.cd < COUNTER_LIMIT
  pub some_epoch : 0 < r.epoch
  pub epoch : r.epoch < COUNTER_LIMIT
  -- a newcomer's image holds nothing
  pub newcomer : r.role ≡ Newcomer → r.position ≡ 0
  -- at most as many as the layout has room for
  pub few : length r.gaps.items ≤ max_gaps r.layout
  pub gaps : AreGaps 0 r.gaps.items r.cp

-- the image of `lines` lines has the version of this record, and the record, which obeys its rules
pub record IsCurrent (lines : ℕ) (image : Image) (r : Record) : Type 0 where
  pub version_is : image 1 ≡ version r.layout
  pub has_record : HasRecord lines r image
  pub lawful : IsLawful r
