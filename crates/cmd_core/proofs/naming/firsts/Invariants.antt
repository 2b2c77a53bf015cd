use Rattle.std.proofs.Common.{◌≡◌, ◌++◌, drop}
use Rattle.cmd_core.specs.Naming.{firsts}
use Rattle.cmd_core.proofs.NamingLemmas.{fresh}
use Rattle.cmd_core.proofs.naming.firsts.Given as goal

abbrev pub invariant-loop-name : goal.invariant-loop-name
invariant-loop-name l = l.once.items ++ fresh l.seen (firsts (drop l.name-index l.names)) ≡ firsts l.names
