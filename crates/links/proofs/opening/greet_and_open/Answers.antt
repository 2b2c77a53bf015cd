use Rattle.links.specs.Opening.{silent}
use Rattle.links.proofs.opening.greet_and_open.Goals as goal

pub returns-in-Err-clause-refused : goal.returns-in-Err-clause-refused
returns-in-Err-clause-refused g c = silent _
