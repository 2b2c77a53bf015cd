use Rattle.model.specs.Image.{IsMapOf, version_at}
use Rattle.model.specs.ReadImage.{image_of}
use Rattle.model.proofs.image_contents.read_map.Given as goal

abbrev pub invariant-loop-i : goal.invariant-loop-i
invariant-loop-i l = IsMapOf (version_at l.current (image_of l.words)) l.i l.keyspace
