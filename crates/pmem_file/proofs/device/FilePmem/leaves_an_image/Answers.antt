use Rattle.std.proofs.Common.{sym, subst}
use Rattle.pmem_file.specs.declared.device.FilePmem.{FilePmem}
use Rattle.pmem_file.specs.Device.{LeavesAnImage}
use Rattle.pmem_file.proofs.device.FilePmem.leaves_an_image.Goals as goal

pub returns-in-Placed-clause-image : goal.returns-in-Placed-clause-image
returns-in-Placed-clause-image c =
    subst (λ (device : FilePmem). LeavesAnImage device) (sym c.in-Placed.is) (λ file image is made. c.leaves_an_image.ensures file image is made.made made.behind)
