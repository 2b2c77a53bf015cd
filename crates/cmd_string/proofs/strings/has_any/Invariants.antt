use Rattle.std.proofs.Common.{◌≡◌, length}
use Rattle.std.specs.List.{list_any}
use Rattle.cmd_core.specs.Contents.{has_key}
use Rattle.cmd_string.specs.Strings.{keys_of_pairs}
use Rattle.cmd_string.proofs.strings.has_any.Given as goal

abbrev pub invariant-loop-left : goal.invariant-loop-left
invariant-loop-left g l =
    list_any (has_key (g.L.Lookup.keyspace l.lookup)) (keys_of_pairs l.left) ≡ list_any (has_key (g.L.Lookup.keyspace l.lookup)) (keys_of_pairs l.fn.words)

abbrev pub decreases-loop-left : goal.decreases-loop-left
decreases-loop-left g l = length l.left
