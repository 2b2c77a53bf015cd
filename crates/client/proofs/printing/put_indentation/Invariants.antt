use Rattle.std.proofs.Common.{◌≡◌, ◌++◌, ◌-◌}
use Rattle.client.specs.Printed.{indentation}
use Rattle.client.proofs.printing.put_indentation.Given as goal

abbrev pub invariant-loop-level : goal.invariant-loop-level
invariant-loop-level l = l.text.items ++ indentation (l.depth - l._level) ≡ l.initial.text.items ++ indentation l.depth
