use Rattle.std.proofs.Common.{◌≡◌}
use Rattle.model.specs.ReadImage.{image_of, gaps_from}
use Rattle.model.proofs.image_words.read_gaps.Given as goal

abbrev pub invariant-loop-k : goal.invariant-loop-k
invariant-loop-k l = l.gaps.items ≡ gaps_from (image_of l.words) l.first l.k
