use Rattle.std.proofs.Common.{◌≡◌, ◌≤◌, ◌++◌, length, IsTrue}
use Rattle.std.specs.List.{AllByRecursion}
use Rattle.kv_types.specs.declared.limits.TheConstants.{MAX_VALUE_BYTES}
use Rattle.cmd_core.specs.declared.shape.Keys.TheVariants.{EverySecond}
use Rattle.cmd_core.specs.Shape.{are_short}
use Rattle.cmd_hash.specs.Writing.{puts_of}
use Rattle.cmd_hash.proofs.writing.puts_of.Given as goal

abbrev pub invariant-loop-left : goal.invariant-loop-left
invariant-loop-left l = record {
  made : l.changes.items ++ puts_of l.key l.left ≡ puts_of l.key l.fn.pairs;
  names : IsTrue (are_short EverySecond l.left);
  values : AllByRecursion (λ word. length word ≤ MAX_VALUE_BYTES) l.left;
}

abbrev pub decreases-loop-left : goal.decreases-loop-left
decreases-loop-left l = length l.left
