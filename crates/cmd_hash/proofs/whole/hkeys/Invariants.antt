use Rattle.std.proofs.Common.{◌≡◌, map, Some}
use Rattle.cmd_hash.proofs.whole.hkeys.Given as goal

abbrev pub invariant-loop-field : goal.invariant-loop-field
invariant-loop-field g l = l.names.items ≡ map (λ entry. Some entry.0) l.yielded
