use Rattle.links.specs.Opening.{silent}
use Rattle.links.proofs.opening.open_link.Goals as goal

pub returns-in_default-clause-refused : goal.returns-in_default-clause-refused
returns-in_default-clause-refused g c = silent _
