use Rattle.pmem_file.specs.Device.{read_by, asked_by}
use Rattle.pmem_file.specs.PageCache.{pages_after}
use Rattle.pmem_file.proofs.WrittenBackLemmas.{begins, allows}
use Rattle.pmem_file.proofs.device.FilePmem.leaves_what_is_allowed.Goals as goal

pub returns : goal.returns
returns c which start opening since told asked told' asked' =
    let device = c.args.self.now in
    allows (read_by device) (pages_after opening start) since (asked_by device) (begins device which start opening told asked) told' asked'
