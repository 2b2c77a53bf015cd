use Rattle.pmem_file.proofs.WrittenBackLemmas.{begins}
use Rattle.pmem_file.proofs.device.FilePmem.begins_on_the_disk.Goals as goal

pub returns : goal.returns
returns c which start events told asked = begins c.args.self.now which start events told asked
