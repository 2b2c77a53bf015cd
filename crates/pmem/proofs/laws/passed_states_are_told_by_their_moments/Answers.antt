use Rattle.pmem.proofs.CutsLemmas.{cuts-are-moments}
use Rattle.pmem.proofs.laws.passed_states_are_told_by_their_moments.Goals as goal

pub returns : goal.returns
returns c = cuts-are-moments
