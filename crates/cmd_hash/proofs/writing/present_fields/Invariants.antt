use Rattle.std.proofs.Common.{◌≡◌, ◌++◌, length, IsTrue}
use Rattle.std.specs.List.{filter}
use Rattle.cmd_core.specs.declared.shape.Keys.TheVariants.{All}
use Rattle.cmd_core.specs.Shape.{are_short}
use Rattle.cmd_hash.specs.Hash.{has_field}
use Rattle.cmd_hash.proofs.writing.present_fields.Given as goal

abbrev pub invariant-loop-left : goal.invariant-loop-left
invariant-loop-left g l = record {
  found : l.present.items ++ filter (has_field (g.L.Lookup.keyspace l.lookup) l.key) l.left ≡ filter (has_field (g.L.Lookup.keyspace l.lookup) l.key) l.fn.fields;
  names : IsTrue (are_short All l.left);
}

abbrev pub decreases-loop-left : goal.decreases-loop-left
decreases-loop-left g l = length l.left
