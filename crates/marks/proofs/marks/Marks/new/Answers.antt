use Rattle.marks.proofs.Keeps.{begins}
use Rattle.marks.proofs.marks.Marks.new.Goals as goal

pub of_words-requires : goal.of_words-requires
of_words-requires c = begins _
