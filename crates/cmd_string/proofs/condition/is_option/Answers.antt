use Rattle.std.proofs.Common.{rules}
use Rattle.cmd_string.specs.Condition.{is_option}
use Rattle.cmd_string.proofs.condition.is_option.Goals as goal

pub returns : goal.returns
unfolding is_option
returns c = search rules
