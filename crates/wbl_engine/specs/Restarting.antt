-- What an image holds that was opened again, whatever lists were read of it.
use Rattle.std.specs.Prelude.{ℕ, List}
use Rattle.kv_types.specs.declared.place.EntryNo.{EntryNo}
use Rattle.heap_layout.specs.declared.entry.Entry.{Entry}
use Rattle.model.specs.declared.record.Role.{Role}
use Rattle.model.specs.Group.{Contents}
use Rattle.model.specs.Image.{Image}
use Rattle.wbl_engine.specs.Reopening.{Reopens}

-- The image was opened again in this role, with lists of its versions, and these are the contents.
pub record IsReopened (lines' : ℕ) (image : Image) (role : Role) (contents : Contents) : Type 0 where
  pub counted : List (EntryNo × Entry)
  pub gapped : List EntryNo
  pub reopens : Reopens lines' image role contents counted gapped
