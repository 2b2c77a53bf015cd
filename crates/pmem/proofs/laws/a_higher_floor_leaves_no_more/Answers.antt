use Rattle.pmem.proofs.Floors.{leaves-no-more}
use Rattle.pmem.proofs.laws.a_higher_floor_leaves_no_more.Goals as goal

pub returns : goal.returns
returns c = leaves-no-more
