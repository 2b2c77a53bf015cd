use Rattle.std.proofs.Common.{◌≡◌, ◌++◌, length, IsTrue}
use Rattle.std.specs.List.{filter}
use Rattle.cmd_core.specs.declared.shape.Keys.TheVariants.{All}
use Rattle.cmd_core.specs.Contents.{has_key}
use Rattle.cmd_core.specs.Shape.{are_short}
use Rattle.cmd_string.proofs.keys.present_keys.Given as goal

abbrev pub invariant-loop-left : goal.invariant-loop-left
invariant-loop-left g l = record {
  found : l.present.items ++ filter (has_key (g.L.Lookup.keyspace l.lookup)) l.left ≡ filter (has_key (g.L.Lookup.keyspace l.lookup)) l.fn.keys;
  names : IsTrue (are_short All l.left);
}

abbrev pub decreases-loop-left : goal.decreases-loop-left
decreases-loop-left g l = length l.left
