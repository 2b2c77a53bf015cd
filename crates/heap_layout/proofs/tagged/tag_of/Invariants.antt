use Rattle.std.proofs.Common.{◌≡◌, drop}
use Rattle.heap_layout.specs.Tag.{tag_from, tag_of}
use Rattle.heap_layout.proofs.tagged.tag_of.Given as goal

abbrev pub invariant-loop-byte : goal.invariant-loop-byte
invariant-loop-byte l = tag_from l.tag (drop l.byte-index l.key) ≡ tag_of l.key
