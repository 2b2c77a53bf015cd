use Rattle.kv_types.proofs.CommandNameLemmas.{found, named}
use Rattle.kv_types.proofs.laws.commands_are_found.Goals as goal

pub returns-clause-found : goal.returns-clause-found
returns-clause-found c = found

pub returns-clause-named : goal.returns-clause-named
returns-clause-named c = named
