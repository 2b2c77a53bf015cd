use Rattle.std.proofs.Common.{rules}
use Rattle.kv_types.specs.CommandName.{is_named}
use Rattle.kv_types.proofs.command_name.is_named.Goals as goal

pub returns : goal.returns
unfolding is_named
returns c = search rules
