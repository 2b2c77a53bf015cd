use Rattle.pmem.proofs.Floors.{leaves-present-words}
use Rattle.pmem.proofs.laws.the_present_floor_leaves_present_words.Goals as goal

pub returns : goal.returns
returns c = leaves-present-words
