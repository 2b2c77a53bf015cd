use Rattle.model.specs.ReadImage.{image_of, AreZero}
use Rattle.model.proofs.image_words.are_zero.Given as goal

abbrev pub invariant-loop-k : goal.invariant-loop-k
invariant-loop-k l = AreZero (image_of l.words) l.first l.k
