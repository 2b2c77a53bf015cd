use Rattle.std.proofs.Common.{◌≡◌, ◌≤◌, ◌*◌, max, length}
use Rattle.std.specs.List.{AllByRecursion}
use Rattle.kv_types.specs.declared.limits.TheConstants.{REQUEST_LIMITS}
use Rattle.cmd_core.specs.Puts.{longest_pair}
use Rattle.cmd_core.proofs.puts.longest_pair.Given as goal

abbrev pub invariant-loop-left : goal.invariant-loop-left
invariant-loop-left l = record {
  found : max l.longest (longest_pair l.left) ≡ longest_pair l.fn.words;
  short : l.longest ≤ 2 * REQUEST_LIMITS.word_bytes;
  lengths : AllByRecursion (λ word. length word ≤ REQUEST_LIMITS.word_bytes) l.left;
}

abbrev pub decreases-loop-left : goal.decreases-loop-left
decreases-loop-left l = length l.left
