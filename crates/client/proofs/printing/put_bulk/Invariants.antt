use Rattle.std.proofs.Common.{◌≡◌, ◌∷◌, [], ◌++◌, drop}
use Rattle.std.specs.List.{flat_map}
use Rattle.client.specs.Printed.{escaped, line, quoted}
use Rattle.client.proofs.printing.put_bulk.Given as goal

abbrev pub invariant-loop-byte : goal.invariant-loop-byte
invariant-loop-byte l = l.text.items ++ flat_map escaped (drop l.byte-index l.bytes) ++ 34 ∷ 10 ∷ [] ≡ l.fn.text.items ++ line l.fn.depth (quoted l.fn.bytes)
