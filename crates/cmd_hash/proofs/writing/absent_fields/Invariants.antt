use Rattle.std.proofs.Common.{◌≡◌, ◌++◌, length, IsTrue}
use Rattle.cmd_core.specs.declared.shape.Keys.TheVariants.{EverySecond}
use Rattle.cmd_core.specs.Shape.{are_short}
use Rattle.cmd_hash.specs.Writing.{absent}
use Rattle.cmd_hash.proofs.writing.absent_fields.Given as goal

abbrev pub invariant-loop-left : goal.invariant-loop-left
invariant-loop-left g l = record {
  found : l.absent.items ++ absent (g.L.Lookup.keyspace l.lookup) l.key l.left ≡ absent (g.L.Lookup.keyspace l.lookup) l.key l.fn.pairs;
  names : IsTrue (are_short EverySecond l.left);
}

abbrev pub decreases-loop-left : goal.decreases-loop-left
decreases-loop-left g l = length l.left
