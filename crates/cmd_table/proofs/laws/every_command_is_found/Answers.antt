use Rattle.cmd_table.proofs.RowLemmas.{found, named}
use Rattle.cmd_table.proofs.laws.every_command_is_found.Goals as goal

pub returns-clause-found : goal.returns-clause-found
returns-clause-found c = found

pub returns-clause-named : goal.returns-clause-named
returns-clause-named c = named
