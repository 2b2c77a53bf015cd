-- What is read of an image that is halfway.
use Rattle.std.proofs.Common.{ℕ, inl, inr}
use Rattle.kv_types.specs.Keyspace.{Keyspace}
use Rattle.model.specs.declared.layout.Layout.TheVariants.{Halfway}
use Rattle.model.specs.declared.record.Record.{Record}
use Rattle.model.specs.Image.{HasSuperblock, Image}
use Rattle.wbl_engine.proofs.ReadingLemmas.{layout_read}
use Rattle.wbl_migrate.specs.Migrating.{CanBeMigrated, HasGapless, IsHalfwayImage}
use Rattle.wbl_migrate.proofs.Undamaged.{undamaged_image}

-- where it breaks no rule and has no gap, it can be migrated on
whole_halfway : (lines : ℕ) (r : Record) (image : Image) → HasSuperblock Halfway lines image → HasGapless lines image r
    → (s : Keyspace) × IsHalfwayImage lines r s image
whole_halfway lines r image stage is =
    let image_is = undamaged_image lines r image is.undamaged Halfway (layout_read stage is.undamaged.current) in
    (image_is.0, record { is = image_is.1; gapless = is.gapless })

pub halfway_can_be : (lines : ℕ) (r : Record) (image : Image) → HasSuperblock Halfway lines image → HasGapless lines image r → CanBeMigrated lines image
halfway_can_be lines r image stage is =
    let whole = whole_halfway lines r image stage is in record { current = r; keyspace = whole.0; is = inr (inl whole.1) }

pub not_broken : {X : Type 0} (lines : ℕ) (r : Record) (image : Image) → HasSuperblock Halfway lines image → HasGapless lines image r
    → ((q : Record) (s : Keyspace) → ¬ IsHalfwayImage lines q s image) → X
not_broken lines r image stage is none = let whole = whole_halfway lines r image stage is in absurd (none r whole.0 whole.1)
