use Rattle.pmem.proofs.Floors.{moments-are-enough}
use Rattle.pmem.proofs.laws.moments_are_enough.Goals as goal

pub returns : goal.returns
returns c = moments-are-enough
