-- An image that was opened again shows its contents, so the lists that were read of it are those from which a keyspace and a heap are made.
use Rattle.std.proofs.Common.{ℕ, inl, List, refl}
use Rattle.kv_types.specs.declared.place.EntryNo.{EntryNo}
use Rattle.heap_layout.specs.declared.entry.Entry.{Entry}
use Rattle.pmem.specs.Device.{State}
use Rattle.pmem.specs.Crash.{image_of}
use Rattle.model.specs.declared.record.Role.{Role}
use Rattle.model.specs.Group.{Contents}
use Rattle.model.specs.Image.{Image}
use Rattle.placing.specs.Read.{AreOf, Shows}
use Rattle.placing.proofs.ShownLemmas.{are_of_shown}
use Rattle.wbl_engine.specs.Contents.{IsDurable, Keeps}
use Rattle.wbl_engine.specs.Reopening.{IsShown, Reopens}
use Rattle.wbl_engine.proofs.ShownContents.{shown_consistent}

module _ (device : State) (lines' : ℕ) (image : Image) (role : Role) (contents : Contents) (counted : List (EntryNo × Entry)) (gapped : List EntryNo)
    (reopens : Reopens lines' image role contents counted gapped) (shown : IsShown contents counted gapped (image_of device.words)) (durable : IsDurable device contents) where
  keeps : Keeps contents (image_of device.words)
  keeps = durable (image_of device.words) (λ word. inl refl)

  -- the image as it is now shows the contents
  pub shows_restarted : Shows contents (image_of device.words)
  shows_restarted = record {
    versions = keeps.versions;
    is_free = shown.is_free;
    consistent = shown_consistent lines' image (image_of device.words) role contents counted gapped reopens shown keeps;
    rules = shown.undamaged.versions;
  }

  -- the lists are those of the contents
  pub are_of_restarted : AreOf contents counted gapped
  are_of_restarted = are_of_shown contents (image_of device.words) counted gapped shows_restarted shown.counted shown.gapped
