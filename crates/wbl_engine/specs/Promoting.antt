-- Promotion: the record that makes an image a primary's, and the contents under it.
use Rattle.std.specs.Prelude.{◌≡◌, ◌⊎◌, ◌+◌, ◌≤◌}
use Rattle.model.specs.declared.image.TheConstants.{COUNTER_LIMIT}
use Rattle.model.specs.declared.record.Record.{Record}
use Rattle.model.specs.declared.record.Role.TheVariants.{Newcomer, Primary}
use Rattle.model.specs.Group.{Contents}

-- The next record, of the next epoch, and a primary's: its position, its stamps and its gaps are as before. A standby has freed what ended, whenever it did, so
-- the floor is the position.
abbrev pub promoted_record : Record → Record
promoted_record r = record r { number = r.number + 1; epoch = r.epoch + 1; role = Primary; floor = r.position }

-- the contents under that record
abbrev pub promoted : Contents → Contents
promoted contents = record contents { current = promoted_record contents.current }

-- a counter of that record would reach the limit; a newcomer is not promoted
abbrev pub ExhaustsPromotion : Record → Type 0
ExhaustsPromotion r = (COUNTER_LIMIT ≤ r.number + 1) ⊎ ((COUNTER_LIMIT ≤ r.epoch + 1) ⊎ (r.role ≡ Newcomer))
