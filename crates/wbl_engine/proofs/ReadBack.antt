-- What was written of a put is read back as its version.
use Rattle.std.proofs.Common.{◌≡◌, ℕ, Bool}
use Rattle.model.specs.declared.group.Put.{Put}
use Rattle.model.specs.Image.{Image}
use Rattle.model.specs.Group.{HasItsLines, version_of_put}
use Rattle.heap_layout.specs.Put.{IsStorable}
use Rattle.heap_layout.proofs.ReadBack.{HasPut, record_in-put}
use Rattle.wbl_engine.proofs.PartEffects.{end_if}
use Rattle.wbl_engine.proofs.VersionLemmas.{version_in_entry}

-- The entry of a put has its version.
pub version_in_entry-put : (image : Image) (stamp position : ℕ) (put : Put) (ended : Bool) → IsStorable put → HasItsLines put
    → HasPut image stamp position put → version_in_entry image put.entry.0 ended ≡ end_if ended (version_of_put position put)
version_in_entry-put image stamp position put ended storable fits has =
    let is = record_in-put image stamp position put storable fits has in
    λ j. record {
      id = (is j).0;
      value = (is j).1;
      position = has.position_is j;
      first_line = has.first_line j;
      lines = has.lines j;
      is_ended = ended;
    }
