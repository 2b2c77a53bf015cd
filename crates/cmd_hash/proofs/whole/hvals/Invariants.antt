use Rattle.std.proofs.Common.{◌≡◌, map, Some}
use Rattle.cmd_hash.proofs.whole.hvals.Given as goal

abbrev pub invariant-loop-value : goal.invariant-loop-value
invariant-loop-value g l = l.values.items ≡ map (λ entry. Some entry.1) l.yielded
