use Rattle.pmem.proofs.CutsLemmas.{no-cut}
use Rattle.pmem.proofs.laws.no_cut_explains_a_fall.Goals as goal

pub returns : goal.returns
returns c = no-cut
