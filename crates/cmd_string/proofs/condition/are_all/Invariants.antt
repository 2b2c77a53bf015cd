use Rattle.std.proofs.Common.{◌≡◌, drop}
use Rattle.std.specs.List.{list_all}
use Rattle.cmd_string.specs.Condition.{is_option}
use Rattle.cmd_string.proofs.condition.are_all.Given as goal

abbrev pub invariant-loop-option : goal.invariant-loop-option
invariant-loop-option l = list_all (is_option l.name) (drop l.option-index l.options) ≡ list_all (is_option l.name) l.options
