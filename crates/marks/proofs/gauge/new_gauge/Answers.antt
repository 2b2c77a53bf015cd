use Rattle.marks.proofs.Gauges.{begins}
use Rattle.marks.proofs.gauge.new_gauge.Goals as goal

pub of_words-requires : goal.of_words-requires
of_words-requires c = begins _
