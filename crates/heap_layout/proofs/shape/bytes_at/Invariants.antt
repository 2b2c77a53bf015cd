use Rattle.std.proofs.Common.{◌≡◌, ◌*◌, w64}
use Rattle.std.specs.Int.{to_le_bytes}
use Rattle.std.specs.List.{flat_map}
use Rattle.pmem.specs.Crash.{image_of}
use Rattle.model.specs.Image.{words_from}
use Rattle.heap_layout.proofs.shape.bytes_at.Given as goal

abbrev pub invariant-loop-k : goal.invariant-loop-k
invariant-loop-k g l = l.bytes.items ≡ flat_map (to_le_bytes w64) (words_from (image_of (g.P.Pmem.state l.device).words) (8 * l.line) l.k)
