use Rattle.std.proofs.Common.{◌↔◌, Some, drop}
use Rattle.standby.specs.Copies.{Rise}
use Rattle.standby.proofs.rising.are_rising_behind.Given as goal

-- all rise just where those that are left do, behind the last one
abbrev pub invariant-loop-put : goal.invariant-loop-put
invariant-loop-put l = Rise (Some l.fn.last) l.puts ↔ Rise (Some l.last) (drop l.put-index l.puts)
