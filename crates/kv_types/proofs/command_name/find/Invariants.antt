use Rattle.std.proofs.Common.{◌≡◌, drop}
use Rattle.kv_types.specs.CommandName.{find}
use Rattle.kv_types.proofs.command_name.find.Given as goal

abbrev pub invariant-loop-command : goal.invariant-loop-command
invariant-loop-command l = find (drop l.command-index l.commands) l.word ≡ find l.commands l.word
